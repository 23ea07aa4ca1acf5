-- What readers of rows, rules and forms promise: each writes what the reader of the table answers there, where entries are
-- kept, and answers the most nodes on a path of it.
use Rattle.std.specs.Prelude.{◌≡◌, ◌≢◌, ◌<◌, ◌+◌, ◌⊎◌, Some, slice_get, ℕ, suc, max, leb, Bool, true, false, ◌∷◌, [], ◌++◌, List, take, drop, Result, Ok, Err}
use denote.Ref.{MutBor}
use Rattle.grammar_theory.specs.declared.error.SyntaxError.{SyntaxError}
use Rattle.grammar_theory.specs.declared.error.SyntaxError.TheVariants.{OutOfMemory}
use Rattle.grammar_theory.specs.Key.{Key, keys_of}
use Rattle.grammar_theory.specs.Productions.{Production}
use Rattle.grammar_theory.specs.Fits.{most_nodes}
use Rattle.grammar_theory.specs.Reader.{Out, nothing, gives, and_then}
use Rattle.es_grammar.specs.declared.rows.NodeKind.{NodeKind}
use Rattle.es_grammar.specs.declared.cst.tree.Cst.{Cst}
use Rattle.es_grammar.specs.cst.Slim.{one, several, tree_in}
use Rattle.es_syntax.specs.declared.entry.Entry.{Entry}
use Rattle.es_syntax.specs.declared.entry.Lean.{Lean}
use Rattle.es_syntax.specs.declared.entry.What.{What}
use Rattle.es_syntax.specs.declared.entry.What.TheVariants as vWhat
use Rattle.es_syntax.specs.Trees.{trees_in}
use Rattle.es_syntax.specs.Written.{opened, closed}
use Rattle.es_syntax.specs.Forest.{Forest, none, node, entries_of, kept_of, Keeps}
use Rattle.es_rules.specs.declared.cursor.Input.{Input}
use Rattle.es_rules.specs.declared.cursor.Cursor.{Cursor}
use Rattle.es_grammar.specs.Conditions.{leans}
use Rattle.es_rules.specs.Bounded.{Read, turned_at, row_at}

-- the keys of the tokens of a text
abbrev pub keys_in : Input → List Key
keys_in input = keys_of input.tokens.tokens.now

-- a tree with its height
abbrev pub single : Cst → ℕ → Read
single t h = record { value = one t; height = h }

-- parts with their height
abbrev pub group : List Cst → ℕ → Read
group ts h = record { value = several ts; height = h }

-- entries with others behind them, where entries are kept
abbrev pub with_more : Bool → List Entry → List Entry → List Entry
with_more true old es = old ++ es
with_more false old es = old

-- entries, a node opened before those from this place on, where entries are kept
abbrev pub with_opened : Bool → ℕ → List Entry → List Entry
with_opened true at old = (take at old ++ opened) ++ drop at old
with_opened false at old = old

-- entries, the node that was opened at this place closed, where entries are kept
abbrev pub with_closed : Bool → What → ℕ → ℕ → ℕ → List Entry → List Entry
with_closed true what from to at old = closed what from to at old
with_closed false what from to at old = old

-- these entries stand behind those that were there, and are these trees; where none are kept, none was written
abbrev pub Writes : Bool → List Entry → List Entry → List Cst → Type 0
Writes true old new ts = (s : Forest) × (new ≡ old ++ entries_of s) × (trees_in (kept_of s) ≡ ts)
Writes false old new ts = new ≡ old

-- an error that tells of the tokens: where no entries are kept, no memory is taken, so each does
abbrev pub IsTelling : Bool → SyntaxError → Type 0
IsTelling true e = e ≢ OutOfMemory
IsTelling false e = Unit {0}

-- nothing was read, or memory ran out; what stood there stands there still
abbrev pub IsRefused : Bool → Out Read → List Entry → List Entry → SyntaxError → Type 0
IsRefused keeps out old new e = Keeps old new × (IsTelling keeps e → out ≡ nothing)

-- the tree that was read is written behind these entries, and the place is the one behind it; or nothing was read
abbrev pub IsRead : Bool → Out Read → List Entry → Cursor → Result ℕ SyntaxError → Type 0
IsRead keeps out old new (Ok h) = (t : Cst) × Writes keeps old new.row (t ∷ []) × (out ≡ gives (single t h) new.at)
IsRead keeps out old new (Err e) = IsRefused keeps out old new.row e

-- the same of a part, which may be a group
abbrev pub IsPart : Bool → Out Read → List Entry → Cursor → Result ℕ SyntaxError → Type 0
IsPart keeps out old new (Ok h) =
    (q : Read) × Writes keeps old new.row (tree_in q.value ∷ []) × (q.height ≡ h) × (out ≡ gives q new.at)
IsPart keeps out old new (Err e) = IsRefused keeps out old new.row e

-- the parts that were read are written behind these entries
abbrev pub Adds : Bool → Out Read → List Entry → Cursor → Result ℕ SyntaxError → Type 0
Adds keeps out old new (Ok h) =
    (ts : List Cst) × Writes keeps old new.row ts × (out ≡ gives (group ts h) new.at)
Adds keeps out old new (Err e) = IsRefused keeps out old new.row e

-- the parts of a turn that was read behind an operand of this height are written behind these entries as one group, which
-- ends where reading stands; the height is that of a node of both that leans, and no path of it has too many
abbrev pub IsTurn : Out Read → ℕ → List Entry → Cursor → Result ℕ SyntaxError → Type 0
IsTurn out first old new (Ok h) =
    (parts : Forest) × (g : ℕ) × (new.row ≡ old ++ entries_of (node vWhat.Parts 0 new.at parts none))
    × (out ≡ gives (group (trees_in (kept_of parts)) g) new.at) × (h ≡ max first (suc g)) × (leb h most_nodes ≡ true)
IsTurn out first old new (Err e) =
    Keeps old new.row × (e ≢ OutOfMemory → (l : NodeKind) (t : Cst) (from : ℕ) → leans l ≡ true
    → and_then out (λ ps to. turned_at l from to (single t first) ps) ≡ nothing)

-- at this place of a row begins a chain that leans left, from this token on, of an operand and a turn at least
pub record LeadsChain (lean : Lean) (from at : ℕ) (row : List Entry) : Type 0 where
  pub head : Entry
  pub first : Entry
  pub there : slice_get row at ≡ Some head
  pub next : slice_get row (at + 1) ≡ Some first
  pub what : head.what ≡ vWhat.Lean lean
  pub begins : head.from ≡ from
  pub more : first.size + 1 < head.size

-- a node is opened before what stands from this place on; or that is such a chain, and goes on
abbrev pub Reopens : Lean → ℕ → ℕ → List Entry → List Entry → Type 0
Reopens lean from at old new = (new ≡ with_opened true at old) ⊎ ((new ≡ old) × LeadsChain lean from at old)

-- the most nodes on a path of a part, and of those behind it
abbrev pub higher_of : ℕ → Result ℕ SyntaxError → Result ℕ SyntaxError
higher_of h (Ok rest) = Ok (max h rest)
higher_of h (Err e) = Err e

-- a function value that reads each row of a table where so many rows may stand on a path
pub record IsRing {Row : Type 0} (rule : Row → Production Row NodeKind) (input : Input) (room : ℕ)
    (pre : Input → ℕ → Row → MutBor Cursor → Type 0)
    (post : Input → ℕ → Row → MutBor Cursor → Result ℕ SyntaxError → MutBor Cursor → Type 0) : Type 0 where
  pub callable : (r : Row) (old : MutBor Cursor) → pre input room r old
  pub reads : (r : Row) (old new : MutBor Cursor) (answer : Result ℕ SyntaxError)
      → post input room r old answer new
      → IsRead input.keeps (row_at rule (keys_in input) room r old.now.at) old.now.row new.now answer
