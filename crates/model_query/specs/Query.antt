-- The queries that are accepted, and the answer to one. Definitions only.
use Rattle.std.specs.Prelude.{Bool, true, false, cond, ◌&&◌, List, pos, Float, Result, Ok, Err}
use Rattle.std.specs.Float.{fin}
use Rattle.std.specs.Float.Ieee.{le}
use Rattle.motor_core.specs.declared.error.Refusal.{Refusal}
use Rattle.motor_core.specs.declared.error.Refusal.TheVariants.{Query as RefusedQuery}
use Rattle.motor_core.specs.declared.name.Name.{Name}
use Rattle.model_query.specs.declared.Query.{Query}

-- 'Turned back', 11: accepted from -65,536 to 65,536, both included. A NaN compares with neither, an infinity lies beyond
unfoldable pub queryable : Float → Bool
queryable x = le (fin true 1 (pos 16)) x && le x (fin false 1 (pos 16))

unfoldable pub query_accepted : Query → Bool
query_accepted query = queryable query.p && queryable query.v && queryable query.t

-- the query, or its refusal
unfoldable pub checked : Query → Result Query Refusal
checked query = cond (query_accepted query) (Ok query) (Err RefusedQuery)

-- names, or the refusal and no name
abbrev pub listed : List Name → Result (List Name) Refusal
listed names = Ok names

abbrev pub refused : Result (List Name) Refusal
refused = Err RefusedQuery

unfoldable pub answer : Query → List Name → Result (List Name) Refusal
answer query names = cond (query_accepted query) (listed names) refused
