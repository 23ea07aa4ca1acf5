-- What a row of entries is as a program: the first part in it.
use Rattle.std.specs.Prelude.{◌≡◌, ℕ, Bool, true, false, List, [], Option, Some, None, MatchOption}
use Rattle.std.specs.Borrow.{Bor}
use Rattle.base.specs.declared.range.Range.{Range}
use Rattle.es_token.specs.declared.token.Token.{Token}
use Rattle.es_lexer.specs.Reads.{ReadsTokens}
use Rattle.es_ast.specs.declared.ast.Program.{Program}
use Rattle.es_ast.specs.declared.ast.Program.TheVariants as vProgram
use Rattle.es_ast.specs.declared.ast.Module.{Module}
use Rattle.es_ast.specs.declared.ast.Script.{Script}
use Rattle.es_site.specs.declared.site.Site.{Site}
use Rattle.es_site.specs.Sites.{sites_of}
use Rattle.es_grammar.specs.declared.rows.NodeKind.TheVariants as l
use Rattle.es_lowering.specs.Lowering.{same_label}
use Rattle.es_lowering.specs.Value.{part, turns, item_at, stmt_at}
use Rattle.es_syntax.specs.declared.entry.What.{What}
use Rattle.es_syntax.specs.declared.entry.What.TheVariants as vWhat
use Rattle.es_syntax.specs.declared.entry.Entry.{Entry}
use Rattle.es_syntax.specs.Held.{held}
use Rattle.es_syntax.specs.Roles.{program_in}

unfoldable pub program_at : List ℕ → List Token → List Entry → Option Program
program_at x ts es = program_in (part (held x ts es) 0)

-- a row of entries is this program over the tokens of the text, and these are its sites
pub record Holds (x : List ℕ) (ts : List Token) (es : List Entry) (sites : List Site) (p : Program) : Type 0 where
  pub reads : ReadsTokens x ts
  pub typed : program_at x ts es ≡ Some p
  pub are_sites : sites ≡ sites_of p

abbrev pub HoldsSome : List ℕ → List Token → List Entry → List Site → Type 0
HoldsSome x ts es sites = (p : Program) × Holds x ts es sites p

-- the module; where there is none, an empty one
abbrev pub the_module : Option Program → Module
the_module (Some (vProgram.Module m)) = m
the_module _ = record { shebang = None; body = []; span = record { start = 0; end = 0 } }

-- the script; where there is none, an empty one
abbrev pub the_script : Option Program → Script
the_script (Some (vProgram.Script s)) = s
the_script _ = record { shebang = None; body = []; span = record { start = 0; end = 0 } }

abbrev pub tells_module : Program → Bool
tells_module (vProgram.Module m) = true
tells_module (vProgram.Script s) = false

abbrev pub span_in : Program → Range
span_in (vProgram.Module m) = m.span
span_in (vProgram.Script s) = s.span

abbrev pub shebang_in : Program → Option (List ℕ)
shebang_in (vProgram.Module m) = m.shebang
shebang_in (vProgram.Script s) = s.shebang

-- these entries are the items of a module, or the statements of a script, as turns
abbrev pub HasBody : List ℕ → List Token → Program → List Entry → Type 0
HasBody x ts (vProgram.Module m) es = turns (λ turn. item_at turn 0) (held x ts es) ≡ Some m.body
HasBody x ts (vProgram.Script s) es = turns (λ turn. stmt_at turn 0) (held x ts es) ≡ Some s.body

abbrev pub is_module_node : What → Bool
is_module_node (vWhat.Node label) = same_label label l.Module
is_module_node _ = false

-- a text that is lent, or none
abbrev pub LentAs : Option (Bor (List ℕ)) → Option (List ℕ) → Type 0
LentAs lent line = MatchOption lent (line ≡ None) (λ text. line ≡ Some text.now)
