-- Document 01's table 'Turned back' and its order, with the rows that document 02 adds. Definitions only.
use Rattle.std.specs.Prelude.{ℕ, ◌/◌, ◌%◌, Bool, true, false, not, ◌&&◌, ◌||◌, cond, leb, ltb, eqb, List, [], ◌∷◌, filter, Option, Some, None}
use Rattle.motor_core.specs.Bus.{motor_id_accepted}
use Rattle.motor_core.specs.Model.{limit_accepted}
use Rattle.motor_core.specs.Name.{spelling}
use Rattle.motor_core.specs.declared.bus.CanFrame.{CanFrame}
use Rattle.motor_core.specs.declared.model.Maxima.{Maxima}
use Rattle.text.specs.Text.{same}
use Rattle.time.specs.Time.{reading_accepted, timeout_accepted}
use Rattle.time.specs.declared.Duration.{Duration}
use Rattle.time.specs.declared.Instant.{Instant}
use Rattle.registers.specs.Registers.{◌to◌, elem, registers, writable, whole_number}
use Rattle.protocol_frame.specs.Layout.{d}
use Rattle.protocol_motor.specs.declared.FeedbackFields.{FeedbackFields}
use Rattle.model_list.specs.declared.MotorModelSpec.{MotorModelSpec}
use Rattle.model_query.specs.Query.{queryable}
use Rattle.model_query.specs.declared.Query.{Query}
use Rattle.run_want.specs.Want.{fits}
use Rattle.run_want.specs.declared.Answer.{Answer}
use Rattle.run_want.specs.declared.Answer.TheVariants.{Reading, Send, Slept}
use Rattle.run_machine.specs.Machine.{machine_want}
use Rattle.run_machine.specs.declared.Machine.{Machine}
use Rattle.session.specs.declared.Head.{Head}
use Rattle.session.specs.declared.Session.{Session}
use Rattle.session_begin.specs.declared.Start.{Start}
use Rattle.session_begin.specs.declared.Start.TheVariants.{GetRegisterU32, GetRegisterF32, WriteRegisterU32, WriteRegisterF32, RequestFreshState, StoreParameters, EnsureControlMode}
use Rattle.session_call.specs.declared.Call.{Call}

-- ---- the table's rows: when, and the number

abbrev pub Row : Type 0
Row = Bool × ℕ

-- a limit not finite, below 1/1024 or above 65,536
abbrev pub limit_out : Maxima → Bool
limit_out m = not (limit_accepted m.p_max) || (not (limit_accepted m.v_max) || not (limit_accepted m.t_max))

abbrev pub limit_row : Maxima → Row
limit_row m = (limit_out m, 1)

-- motor id above 0x4FF
abbrev pub motor_id_row : ℕ → Row
motor_id_row motor = (not (motor_id_accepted motor), 2)

-- reading below the session's last, or above 2^62
abbrev pub reading_row : Instant → Instant → Row
reading_row last reading = (not (reading_accepted last reading), 3)

-- register unknown
abbrev pub register_row : ℕ → Row
register_row rid = (not (elem rid registers), 4)

-- write to a read-only register
abbrev pub read_only_row : ℕ → Row
read_only_row rid = (not (elem rid writable), 5)

-- write of the other type: of a whole number where the register holds a float, or of a float where it holds a whole number
abbrev pub whole_number_row : ℕ → Row
whole_number_row rid = (not (elem rid whole_number), 6)

abbrev pub float_row : ℕ → Row
float_row rid = (elem rid whole_number, 6)

-- timeout above 60 s
abbrev pub timeout_row : Duration → Row
timeout_row timeout = (not (timeout_accepted timeout), 7)

-- a run is open
abbrev pub is_open : Option Machine → Bool
is_open None = false
is_open (Some machine) = true

abbrev pub run_row : Option Machine → Row
run_row run = (is_open run, 8)

-- no run open, or another kind of answer wanted
abbrev pub unwanted : Option Machine → Answer → Bool
unwanted None answer = true
unwanted (Some machine) answer = not (fits (machine_want machine) answer)

abbrev pub unwanted_row : Option Machine → Answer → Row
unwanted_row run answer = (unwanted run answer, 9)

-- mode not 1 to 4
abbrev pub mode_row : ℕ → Row
mode_row mode = (not (elem mode (1 to 4)), 10)

-- p, v or t queried not finite or beyond ±65,536
abbrev pub query_row : Query → Row
query_row q = (not (queryable q.p) || (not (queryable q.v) || not (queryable q.t)), 11)

-- model name unknown: no model of the list has it
abbrev pub of_name : List MotorModelSpec → List ℕ → List MotorModelSpec
of_name models name = filter (λ (spec : MotorModelSpec). same (spelling spec.model) name) models

abbrev pub none_of : List MotorModelSpec → Bool
none_of [] = true
none_of (spec ∷ rest) = false

abbrev pub model_row : List MotorModelSpec → List ℕ → Row
model_row models name = (none_of (of_name models name), 12)

-- the limits of the first model that has the name
abbrev pub first_limits_out : List MotorModelSpec → Bool
first_limits_out [] = false
first_limits_out (spec ∷ rest) = limit_out spec.maxima

abbrev pub named_limit_row : List MotorModelSpec → List ℕ → Row
named_limit_row models name = (first_limits_out (of_name models name), 1)

-- bytes d1, d2 and d3 of a register's frame: the first at most 0F, the second a marker, the third a known register
abbrev pub of_register : ℕ → ℕ → ℕ → Bool
of_register d1 d2 d3 = leb d1 0x0f && ((eqb d2 0x33 || eqb d2 0x55) && elem d3 registers)

-- T-02: a feedback whose bytes would be read as one: the position's high byte and its low one, and the velocity's high eight bits
abbrev pub register_like : FeedbackFields → Bool
register_like f = of_register (f.pos / 256) (f.pos % 256) (f.vel / 16)

abbrev pub register_like_row : FeedbackFields → Row
register_like_row f = (register_like f, 13)

-- T-02: a field that its bits have no room for, as a temperature's eight always have; an id that T-01 does not accept
abbrev pub too_wide : FeedbackFields → Bool
too_wide f = ltb 15 f.status_code || (ltb 15 f.can_id || (ltb 0xffff f.pos || (ltb 0xfff f.vel || (ltb 0xfff f.torq || (ltb 255 f.t_mos || ltb 255 f.t_rotor)))))

abbrev pub wide_row : FeedbackFields → Row
wide_row f = (too_wide f, 14)

abbrev pub wide_id_row : ℕ → Row
wide_id_row id = (not (motor_id_accepted id), 14)

-- T-03: of another motor: the two bytes of a register's frame that have its id, or feedback's low four bits, differ
abbrev pub of_other_motor : ℕ → List ℕ → Bool
of_other_motor motor bytes =
    cond (of_register (d bytes 1) (d bytes 2) (d bytes 3))
    (not (eqb (d bytes 0) (motor % 256)) || not (eqb (d bytes 1) (motor / 256)))
    (not (eqb (d bytes 0 % 16) (motor % 16)))

-- T-03: a frame that is extended, not of eight bytes, on another id, or of another motor
abbrev pub foreign : Head → CanFrame → Bool
foreign h f = f.is_extended || (not (eqb f.dlc 8) || (not (eqb f.arbitration_id h.feedback_id) || of_other_motor h.motor_id f.«data»))

abbrev pub foreign_row : Head → CanFrame → Row
foreign_row h f = (foreign h f, 15)

-- ---- its order: the first row that is met says the number, and 0 says that nothing is turned back

abbrev pub first : List Row → ℕ
first [] = 0
first (row ∷ rest) = cond row.0 row.1 (first rest)

-- start 12 or 1, then 2
abbrev pub start_by_limits : ℕ → Maxima → ℕ
start_by_limits motor m = first (limit_row m ∷ motor_id_row motor ∷ [])

abbrev pub start_by_name : ℕ → List MotorModelSpec → List ℕ → ℕ
start_by_name motor models name = first (model_row models name ∷ named_limit_row models name ∷ motor_id_row motor ∷ [])

-- command frame 1, 2; the first where it has limits
abbrev pub command_with_limits : ℕ → Maxima → ℕ
command_with_limits motor m = first (limit_row m ∷ motor_id_row motor ∷ [])

abbrev pub single_command : ℕ → ℕ
single_command motor = first (motor_id_row motor ∷ [])

-- run 8, 10, 4, 5, 6, 7: of each those that it can meet
abbrev pub run_rows : Option Machine → Start → List Row
run_rows opened (GetRegisterU32 rid timeout) = run_row opened ∷ register_row rid ∷ timeout_row timeout ∷ []
run_rows opened (GetRegisterF32 rid timeout) = run_row opened ∷ register_row rid ∷ timeout_row timeout ∷ []
run_rows opened (WriteRegisterU32 rid value) = run_row opened ∷ register_row rid ∷ read_only_row rid ∷ whole_number_row rid ∷ []
run_rows opened (WriteRegisterF32 rid value) = run_row opened ∷ register_row rid ∷ read_only_row rid ∷ float_row rid ∷ []
run_rows opened (RequestFreshState timeout) = run_row opened ∷ timeout_row timeout ∷ []
run_rows opened StoreParameters = run_row opened ∷ []
run_rows opened (EnsureControlMode mode timeout) = run_row opened ∷ mode_row mode ∷ timeout_row timeout ∷ []

abbrev pub run : Session → Start → ℕ
run s start = first (run_rows s.run start)

-- answer 9, 3: the second where it is a reading
abbrev pub answer_rows : Option Machine → Instant → Answer → List Row
answer_rows opened last (Reading reading) = unwanted_row opened (Reading reading) ∷ reading_row last reading ∷ []
answer_rows opened last (Send sent) = unwanted_row opened (Send sent) ∷ []
answer_rows opened last Slept = unwanted_row opened Slept ∷ []

abbrev pub answer : Session → Answer → ℕ
answer s given = first (answer_rows s.run s.head.last given)

-- frame taken 3, 15
abbrev pub frame_taken : Session → CanFrame → Instant → ℕ
frame_taken s frame reading = first (reading_row s.head.last reading ∷ foreign_row s.head frame ∷ [])

-- decoding, a query, a model's limits, a cached entry
abbrev pub decoding : Maxima → ℕ
decoding m = first (limit_row m ∷ [])

abbrev pub query : Query → ℕ
query q = first (query_row q ∷ [])

abbrev pub model_limits : List MotorModelSpec → List ℕ → ℕ
model_limits models name = first (model_row models name ∷ [])

abbrev pub cached : ℕ → ℕ
cached rid = first (register_row rid ∷ [])

-- T-02: feedback 14, 13; a register's reply or ack 14, 4
abbrev pub feedback_sent : FeedbackFields → ℕ
feedback_sent f = first (wide_row f ∷ register_like_row f ∷ [])

abbrev pub register_sent : ℕ → ℕ → ℕ
register_sent id rid = first (wide_id_row id ∷ register_row rid ∷ [])

-- any call on a session; a patch is never turned back
abbrev pub turned_back : Session → Call → ℕ
turned_back s (Call.Start start) = run s start
turned_back s (Call.Answer given) = answer s given
turned_back s (Call.Frame frame reading) = frame_taken s frame reading
turned_back s (Call.Patch status mos rotor) = 0
