-- A line as a call: the line script's table, and how a line goes by it.
use Rattle.std.specs.Prelude.{ℕ, suc, Bool, true, false, cond, not, ◌&&◌, ◌||◌, List, [], ◌∷◌, length, set, replicate, ltb, eqb, Option, Some, None, Result, Ok, Err, find, take, drop}
use Rattle.std.specs.List.{list_any}
use Prim.Native.Char.{code}
use Prim.Native.String.{String}
use Rattle.text.specs.Ascii.{ascii}
use Rattle.text.specs.Text.{same}
use Rattle.script_words.specs.Number.{field_of}
use Rattle.script_words.specs.Word.{split}
use Rattle.script_words.specs.declared.Kind.{Kind}
use Rattle.script_words.specs.declared.Kind.TheVariants.{Flag, U8, U16, U32, U64, Name}
use Rattle.script.specs.declared.Call.{Call}
use Rattle.script.specs.declared.Fault.{Fault}
use Rattle.script.specs.declared.Fault.TheVariants.{LongLine, ControlByte, UnknownWord, NotLent, TooFew, TooMany, WrongArgument}
use Rattle.script.specs.declared.calls.Row.{Row}
use Rattle.script.specs.declared.calls.CallName.{CallName}
use Rattle.script.specs.declared.calls.CallName.TheVariants.{StartLimits, StartModel, GetU32, GetF32, WriteU32, WriteF32, FreshState, Store, Mode, Clock, Sent, SendTimeout, SendFailed, Slept, Frame, FrameLent, Accepts, Patch, Session, Mit, PosVel, Vel, ForcePos, ReadReg, WriteReg, StoreParams, FeedbackRequest, Disable, Zero, Clear, MakeFeedback, MakeReply, MakeAck, Decode, Sort, StatusName, Register, Match, Suggest}

-- what a call looks like: its word, its name, the kinds of its arguments, and whether `lent` may stand before it
pub record Form : Type 0 where
  pub word : List ℕ
  pub name : CallName
  pub kinds : List Kind
  pub lends : Bool

abbrev pub form : String → CallName → List Kind → List Form → List Form
form word name kinds forms = (record { word = ascii word; name = name; kinds = kinds; lends = false }) ∷ forms

abbrev pub lending : String → CallName → List Kind → List Form → List Form
lending word name kinds forms = (record { word = ascii word; name = name; kinds = kinds; lends = true }) ∷ forms

unfoldable pub calls : List Form
calls =
    form "start-limits" StartLimits (U16 ∷ (U16 ∷ (U32 ∷ (U32 ∷ (U32 ∷ [])))))
    (form "start-model" StartModel (Name ∷ (U16 ∷ (U16 ∷ [])))
    (lending "get-u32" GetU32 (U8 ∷ (U64 ∷ []))
    (lending "get-f32" GetF32 (U8 ∷ (U64 ∷ []))
    (lending "write-u32" WriteU32 (U8 ∷ (U32 ∷ []))
    (lending "write-f32" WriteF32 (U8 ∷ (U32 ∷ []))
    (lending "fresh-state" FreshState (U64 ∷ [])
    (lending "store" Store []
    (lending "mode" Mode (U32 ∷ (U64 ∷ []))
    (lending "clock" Clock (U64 ∷ [])
    (lending "sent" Sent []
    (lending "send-timeout" SendTimeout []
    (lending "send-failed" SendFailed []
    (lending "slept" Slept []
    (form "frame" Frame (U64 ∷ (U32 ∷ (U64 ∷ (U8 ∷ (Flag ∷ [])))))
    (form "frame-lent" FrameLent (U64 ∷ (U32 ∷ (U64 ∷ (U8 ∷ (Flag ∷ [])))))
    (form "accepts" Accepts (U32 ∷ (U64 ∷ (U8 ∷ (Flag ∷ []))))
    (lending "patch" Patch (U8 ∷ (U8 ∷ (U8 ∷ [])))
    (form "session" Session []
    (form "mit" Mit (U16 ∷ (U32 ∷ (U32 ∷ (U32 ∷ (U32 ∷ (U32 ∷ (U32 ∷ (U32 ∷ (U32 ∷ [])))))))))
    (form "pos-vel" PosVel (U16 ∷ (U32 ∷ (U32 ∷ [])))
    (form "vel" Vel (U16 ∷ (U32 ∷ []))
    (form "force-pos" ForcePos (U16 ∷ (U32 ∷ (U32 ∷ (U32 ∷ []))))
    (form "read-reg" ReadReg (U16 ∷ (U8 ∷ []))
    (form "write-reg" WriteReg (U16 ∷ (U8 ∷ (U32 ∷ [])))
    (form "store-params" StoreParams (U16 ∷ [])
    (form "feedback-request" FeedbackRequest (U16 ∷ [])
    (form "disable" Disable (U16 ∷ [])
    (form "zero" Zero (U16 ∷ [])
    (form "clear" Clear (U16 ∷ [])
    (form "make-feedback" MakeFeedback (U8 ∷ (U8 ∷ (U32 ∷ (U32 ∷ (U32 ∷ (U8 ∷ (U8 ∷ [])))))))
    (form "make-reply" MakeReply (U16 ∷ (U8 ∷ (U32 ∷ [])))
    (form "make-ack" MakeAck (U16 ∷ (U8 ∷ (U32 ∷ [])))
    (form "decode" Decode (U32 ∷ (U32 ∷ (U32 ∷ (U64 ∷ []))))
    (form "sort" Sort (U64 ∷ [])
    (form "status-name" StatusName (U8 ∷ [])
    (form "register" Register (U8 ∷ [])
    (form "match" Match (U32 ∷ (U32 ∷ (U32 ∷ (U32 ∷ []))))
    (form "suggest" Suggest (U32 ∷ (U32 ∷ (U32 ∷ (U64 ∷ [])))) []))))))))))))))))))))))))))))))))))))))

abbrev pub form_of : Row → Form
form_of r = record { word = r.0.now; name = r.1; kinds = r.2.now; lends = r.3 }

abbrev pub with_value : Option ℕ → (ℕ → Result Call Fault) → Fault → Result Call Fault
with_value (Some n) next fault = next n
with_value None next fault = Err fault

-- the words as the arguments from place i on, one for each kind, nine at most
unfoldable pub fields_of : List Kind → List (List ℕ) → CallName → Bool → ℕ → List ℕ → Result Call Fault
fields_of [] [] name lent i args = Ok (record { name = name; args = args; is_lent = lent })
fields_of [] (word ∷ words) name lent i args = Err (TooMany name)
fields_of (kind ∷ kinds) [] name lent i args = Err (TooFew name)
fields_of (kind ∷ kinds) (word ∷ words) name lent i args =
    cond (ltb i 9)
    (with_value (field_of kind word) (λ n. fields_of kinds words name lent (suc i) (set args i n)) (WrongArgument name (suc i) kind))
    (Err (TooMany name))

-- the call of this form, where there is one
unfoldable pub call_from : Bool → Option Form → List (List ℕ) → Result Call Fault
call_from lent None words = Err UnknownWord
call_from lent (Some f) words = cond (lent && not f.lends) (Err (NotLent f.name)) (fields_of f.kinds words f.name lent 0 (replicate 9 0))

-- the call of the first form that has the first word, lent or not
unfoldable pub call_of : Bool → List Form → List (List ℕ) → Result Call Fault
call_of lent forms [] = Err UnknownWord
call_of lent forms (word ∷ words) = call_from lent (find (λ f. same f.word word) forms) words

-- the call of the whole line: where `lent` and a space stand before it, it is lent
unfoldable pub call_in : List ℕ → Result Call Fault
call_in line =
    cond (same (take 5 line) (ascii "lent "))
    (call_of true calls (split (drop 5 line)))
    (call_of false calls (split line))

abbrev pub has : ℕ → List ℕ → Bool
has b s = list_any (λ x. eqb x b) s

abbrev pub passed_over : List ℕ → Bool
passed_over [] = true
passed_over (b ∷ rest) = eqb b (code "#")

abbrev pub some_call : Result Call Fault → Result (Option Call) Fault
some_call (Ok call) = Ok (Some call)
some_call (Err fault) = Err fault

-- a line of more than 4,095 bytes is bad whatever it begins with; so is one with a tab or a carriage return that is not passed over
unfoldable pub parsed : List ℕ → Result (Option Call) Fault
parsed line =
    cond (ltb 4095 (length line)) (Err LongLine)
    (cond (passed_over line) (Ok None)
    (cond (has 9 line || has 13 line) (Err ControlByte)
    (some_call (call_in line))))
