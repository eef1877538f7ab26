use Rattle.std.proofs.Common.{◌≡◌, ◌^◌, ◌<◌, drop}
use Rattle.script_words.specs.Number.{digits_of, digits_after}
use Rattle.script_words.proofs.numbers.digits.Given as goal

abbrev pub invariant-loop-byte : goal.invariant-loop-byte
invariant-loop-byte l = (digits_of l.base l.word ≡ digits_after l.base l.value (drop l.byte-index l.word)) × (l.value < 2 ^ 64)
