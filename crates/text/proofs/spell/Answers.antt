-- `text::spell` meets its contract. The invariant: the digits of `rest` and those written are all the digits. Assumes nothing.
use mathlib.Core.Path.{◌∙◌}
use native.Mathlib.Omega.{arith}
use lib.ListN.{length-set}
use Rattle.text.proofs.Buffers.{moved}
use Rattle.text.proofs.spell.Goals as goal

pub loop-i-preserved : goal.loop-i-preserved
loop-i-preserved c = let l = c.loop-i in (
  simp length-set l.invariant.0,
  omega arith,
  moved c.args.base l.i c.args.k l.rest c.glyph.result l.out c.loop-i-test.true l.invariant.1 (omega arith) c.glyph.ensures ∙ l.invariant.2,
)
