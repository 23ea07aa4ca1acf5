-- The names of a tree, with the numbers that stand beside it.
use Rattle.std.specs.Prelude.{◌≡◌, ℕ, ◌==◌, false, List, [], ◌∷◌}
use Rattle.es_ast.specs.declared.ts.leaf.Ident.{Ident as Name}
use Rattle.es_scopes.specs.Numbers.{Named}
use Rattle.es_variables.specs.declared.ident.Ident.{Ident}

-- a name of a tree with this number
abbrev pub numbered : ℕ → Name → Name
numbered n it = record { sym = it.sym; ctxt = n; optional = it.optional; span = it.span }

-- and without one
abbrev pub unnumbered : Name → Name
unnumbered it = numbered 0 it

-- what is told of a name where it stands in a text, as a name of a tree
abbrev pub name_of : Ident → Name
name_of it = record { sym = it.sym.now; ctxt = it.ctxt; optional = false; span = it.span }

-- none of these names is this token
abbrev pub AreOthers : ℕ → List Named → Type 0
AreOthers token [] = Unit {0}
AreOthers token (it ∷ names) = ((it.token == token) ≡ false) × AreOthers token names
