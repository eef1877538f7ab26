use Rattle.std.proofs.Common.{◌≡◌, ◌+◌, length, drop}
use Rattle.script_words.specs.Word.{split}
use Rattle.script.specs.Line.{calls, call_of, fields_of}
use Rattle.script.proofs.Parsing.{Gives}
use Rattle.script.proofs.lines.call_of.Given as goal

abbrev pub invariant-loop-place : goal.invariant-loop-place
invariant-loop-place l =
    let n = length l.yielded in
    let left = drop (n + 1) (split l.words) in
    record {
      words : Gives (goal.iterator-loop-place).next_gives l.place-iterator n left;
      call : call_of l.is_lent calls (split l.words) ≡ fields_of l.kinds.rest.now left l.name l.is_lent n l.args;
      room : length l.args ≡ 9;
    }
