-- Results one after the other. Definitions only.
use Rattle.std.specs.Prelude.{Result, Ok, Err}

-- Rust's `?`: what is made of the value, or the error
abbrev pub and_then : {A B E : Type 0} → Result A E → (A → Result B E) → Result B E
and_then (Ok x) f = f x
and_then (Err e) f = Err e
