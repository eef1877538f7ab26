-- Lines of the script as calls, by computation. Assumes nothing.
use Prim.Native.String.{String}
use Rattle.std.proofs.Common.{◌≡◌, refl, [], ◌∷◌, Option, Some, None, Result, Ok, Err, List, ℕ, true, false, replicate}
use Rattle.text.specs.Ascii.{ascii}
use Rattle.text.specs.Text.{same}
use Rattle.script_words.specs.Number.{digit_of, all_digits, value_of, digits_after, digits_of, number_of, limit_of, at_most, name_of, field_of}
use Rattle.script_words.specs.declared.Kind.TheVariants.{Flag, U8, U64}
use Rattle.script.specs.Line.{calls, fields_of, call_from, call_of, call_in, parsed}
use Rattle.script.specs.declared.Call.{Call}
use Rattle.script.specs.declared.Fault.{Fault}
use Rattle.script.specs.declared.Fault.TheVariants.{ControlByte, UnknownWord, NotLent, TooFew, TooMany, WrongArgument}
use Rattle.script.specs.declared.calls.CallName.{CallName}
use Rattle.script.specs.declared.calls.CallName.TheVariants.{StartModel, Mode, Store, Clock, Patch, Frame, Accepts, Session, Mit, Vel, Register, Suggest}

unfoldable pub call : String → Result (Option Call) Fault
call line = parsed (ascii line)

abbrev made : CallName → List ℕ → Result (Option Call) Fault
made name args = Ok (Some (record { name = name; args = args; is_lent = false }))

abbrev lent : CallName → List ℕ → Result (Option Call) Fault
lent name args = Ok (Some (record { name = name; args = args; is_lent = true }))

pub record Examples : Type 0 where
  pub start_model : call "start-model 4310 1 0x11" ≡ made StartModel (4 ∷ 1 ∷ 17 ∷ 0 ∷ 0 ∷ 0 ∷ 0 ∷ 0 ∷ 0 ∷ [])
  pub frame : call "frame 5 0x11 0x110F330A01000000 8 0" ≡ made Frame (5 ∷ 17 ∷ 0x110F_330A_0100_0000 ∷ 8 ∷ 0 ∷ 0 ∷ 0 ∷ 0 ∷ 0 ∷ [])
  pub session : call "session" ≡ made Session (replicate 9 0)
  pub mit : call "mit 1 2 3 4 5 6 7 8 0xfFfFfFfF" ≡ made Mit (1 ∷ 2 ∷ 3 ∷ 4 ∷ 5 ∷ 6 ∷ 7 ∷ 8 ∷ 0xffff_ffff ∷ [])
  pub suggest : call "suggest 1 2 3 18446744073709551615" ≡ made Suggest (1 ∷ 2 ∷ 3 ∷ 18446744073709551615 ∷ 0 ∷ 0 ∷ 0 ∷ 0 ∷ 0 ∷ [])
  pub zeros_in_front : call "register 0x00000000000000000000ff" ≡ made Register (255 ∷ 0 ∷ 0 ∷ 0 ∷ 0 ∷ 0 ∷ 0 ∷ 0 ∷ 0 ∷ [])
  pub mode_lent : call "lent mode 3 400000000" ≡ lent Mode (3 ∷ 400000000 ∷ 0 ∷ 0 ∷ 0 ∷ 0 ∷ 0 ∷ 0 ∷ 0 ∷ [])
  pub store_lent : call "lent store" ≡ lent Store (replicate 9 0)
  pub patch_lent : call "lent patch 11 80 0x5a" ≡ lent Patch (11 ∷ 80 ∷ 90 ∷ 0 ∷ 0 ∷ 0 ∷ 0 ∷ 0 ∷ 0 ∷ [])
  pub comment : call "# register 7" ≡ Ok None
  pub nothing : call "" ≡ Ok None
  pub out_of_field : call "register 256" ≡ Err (WrongArgument Register 1 U8)
  pub past_64_bits : call "suggest 1 2 3 18446744073709551616" ≡ Err (WrongArgument Suggest 4 U64)
  pub flag : call "accepts 17 0 8 2" ≡ Err (WrongArgument Accepts 4 Flag)
  pub two_spaces : call "register  7" ≡ Err (WrongArgument Register 1 U8)
  pub space_behind : call "register 7 " ≡ Err (TooMany Register)
  pub no_digit : call "register 0x" ≡ Err (WrongArgument Register 1 U8)
  pub carriage_return : call "register 7\r" ≡ Err ControlByte
  pub one_short : call "vel 1" ≡ Err (TooFew Vel)
  pub one_over : call "store 1" ≡ Err (TooMany Store)
  pub no_word : call "help" ≡ Err UnknownWord
  pub lent_frame : call "lent frame" ≡ Err (NotLent Frame)
  pub lent_session : call "lent session" ≡ Err (NotLent Session)
  pub lent_twice : call "lent lent clock 5" ≡ Err UnknownWord
  pub lent_alone : call "lent" ≡ Err UnknownWord
  pub lent_and_a_space : call "lent " ≡ Err UnknownWord
  pub lent_argument : call "lent clock x" ≡ Err (WrongArgument Clock 1 U64)

pub examples : Examples
unfolding call ascii parsed calls call_in call_of call_from fields_of field_of name_of at_most limit_of number_of digits_of digits_after value_of all_digits digit_of same
examples = record {
  start_model = refl;
  frame = refl;
  session = refl;
  mit = refl;
  suggest = refl;
  zeros_in_front = refl;
  mode_lent = refl;
  store_lent = refl;
  patch_lent = refl;
  comment = refl;
  nothing = refl;
  out_of_field = refl;
  past_64_bits = refl;
  flag = refl;
  two_spaces = refl;
  space_behind = refl;
  no_digit = refl;
  carriage_return = refl;
  one_short = refl;
  one_over = refl;
  no_word = refl;
  lent_frame = refl;
  lent_session = refl;
  lent_twice = refl;
  lent_alone = refl;
  lent_and_a_space = refl;
  lent_argument = refl;
}
