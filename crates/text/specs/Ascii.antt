-- The bytes of a text in ASCII. Definitions only.
use Rattle.std.specs.Prelude.{ℕ, List, [], ◌∷◌}
use Prim.Native.Char.{code}
use Prim.Native.String.{String, [] as end, ◌∷◌ as ◌then◌}

unfoldable pub ascii : String → List ℕ
ascii end = []
ascii (c then s) = code c ∷ ascii s
