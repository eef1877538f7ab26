-- What is cached of a register. Definitions only.
use Rattle.std.specs.Prelude.{ℕ, cond, List, ltb, get_or, Option, Some, None, Result, Ok, Err}
use Rattle.motor_core.specs.declared.error.Refusal.{Refusal}
use Rattle.motor_core.specs.declared.error.Refusal.TheVariants.{Register}
use Rattle.registers.specs.Registers.{known}
use Rattle.registers.specs.declared.RegisterValue.{RegisterValue}
use Rattle.state_cache.specs.declared.Entry.{Entry}
use Rattle.state_cache.specs.declared.Entry.TheVariants.{Empty, Held}

-- 'The register answers', cached entries: a register's slot among those of replies, or of acks, with nothing yet, or a value and when it came
abbrev pub slot_of : List Entry → ℕ → Entry
slot_of slots rid = get_or slots rid Empty

-- the value in an entry
abbrev pub value_in : Entry → Option RegisterValue
value_in Empty = None
value_in (Held value stamp) = Some value

-- where it stands; a number from 82 on has no slot
unfoldable pub slot_index : ℕ → ℕ
slot_index rid = cond (ltb rid 82) rid 0

-- its entry; 'Turned back', 4, where no register has the number
abbrev pub cached_entry : List Entry → ℕ → Result Entry Refusal
cached_entry slots rid = cond (known rid) (Ok (slot_of slots rid)) (Err Register)
