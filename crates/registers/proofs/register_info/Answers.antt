-- `registers::register_info` meets its contract: the rows are what the list makes them, which the checker computes at all of their 256 places. Assumes nothing.
use native.Mathlib.Omega.{arith}
use Rattle.std.specs.Prelude.{None}
use Rattle.registers.specs.Registers.{info_of}
use Rattle.registers.proofs.Table.{in_rows}
use Rattle.registers.proofs.register_info.Goals as goal

pub returns : goal.returns
unfolding info_of
returns c = in_rows info_of None 8 32 c.args.rid (omega arith) (omega arith)
