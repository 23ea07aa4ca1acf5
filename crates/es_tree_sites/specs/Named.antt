-- Where a module can be named at all.
use Rattle.std.specs.Prelude.{◌≡◌, ℕ, zero, suc, Bool, true, false, ◌||◌, List, [], ◌∷◌}
use Rattle.es_grammar.specs.declared.rows.NodeKind.{NodeKind}
use Rattle.es_grammar.specs.declared.rows.NodeKind.TheVariants as l
use Rattle.es_syntax.specs.declared.entry.What.{What}
use Rattle.es_syntax.specs.declared.entry.What.TheVariants as vWhat
use Rattle.es_syntax.specs.declared.entry.Entry.{Entry}

-- a node of this alternative can name a module by itself
abbrev pub names_module : NodeKind → Bool
names_module l.BareImport = true
names_module l.FromImport = true
names_module l.SourceImport = true
names_module l.DeferImport = true
names_module l.RequireImport = true
names_module l.ExportedRequireImport = true
names_module l.ExportAll = true
names_module l.ExportNames = true
names_module l.ImportCall = true
names_module l.SourceCall = true
names_module l.DeferCall = true
names_module _ = false

abbrev pub may_name : What → Bool
may_name (vWhat.Node label) = names_module label
may_name _ = false

-- one of these entries can
abbrev pub any_may_name : List Entry → Bool
any_may_name [] = false
any_may_name (e ∷ es) = may_name e.what || any_may_name es

-- none of so many can
abbrev pub Unnamed : ℕ → List Entry → Type 0
Unnamed zero es = Unit {0}
Unnamed (suc n) [] = Unit {0}
Unnamed (suc n) (e ∷ es) = (may_name e.what ≡ false) × Unnamed n es
