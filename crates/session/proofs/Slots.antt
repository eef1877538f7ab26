-- What a session's type says of its caches. Assumes nothing.
use mathlib.Core.Path.{◌≡◌}
use mathlib.Core.List.{List}
use lib.ListN.{length}
use mir.Val.{Val}
use denote.Laws.{Is}
use denote.Struct.Laws as Laws
use Rattle.session.specs.declared.Session.{Session}
use Rattle.session.specs.contracts.Session as Session·row
use Rattle.session.proofs.Session.TheLaws as Session·laws

pub replies_length : (s : Session) (vs : List Val) → Is Session·row.the_row s vs → length s.replies ≡ 82
replies_length s vs is = (Laws.owed Session·row.the_type Session·laws.the_laws s vs is).1.0.1.0.1

pub acks_length : (s : Session) (vs : List Val) → Is Session·row.the_row s vs → length s.acks ≡ 82
acks_length s vs is = (Laws.owed Session·row.the_type Session·laws.the_laws s vs is).1.1.0.1.0.1
