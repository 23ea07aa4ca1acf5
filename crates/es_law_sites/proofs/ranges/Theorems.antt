-- Each site of a derived tree cuts its literal from the text, where each string literal among the tokens is cut.
use Rattle.std.specs.Prelude.{List, Option, Some, slice_get, true}
use Rattle.std.proofs.Common.{◌≡◌, ℕ, subst}
use Rattle.es_token.specs.declared.token.Token.{Token}
use Rattle.es_token.specs.declared.token.TokenKind.TheVariants as k
use Rattle.grammar_theory.specs.declared.error.Lang.{Lang}
use Rattle.grammar_theory.specs.declared.error.Mode.{Mode}
use Rattle.grammar_theory.specs.Key.{seen, keys_of, is}
use Rattle.es_ast.specs.declared.ast.Program.{Program}
use Rattle.es_grammar.specs.cst.Slim.{tree_of}
use Rattle.es_site.specs.Sites.{sites_of}
use Rattle.es_law_sites.proofs.literal_places.Theorems.{strs}
use Rattle.es_lowering.specs.Value.{Value, Typed}
use Rattle.es_lowering.specs.Texts.{str_of}
use Rattle.es_lowering.specs.Lowering.{value_of}
use Rattle.es_lowering.specs.derives.Derives.{program_in, Derives}
use Rattle.es_law_sites.proofs.ranges.Cuts.{Opt, Cut, StrCuts}
use Rattle.es_law_sites.proofs.ranges.Fine.{ProgramCuts, Fine, read_fine}
use Rattle.es_law_sites.proofs.ranges.Kept.{tree_fine}

program_fine : (x : List ℕ) (v : Value) → Fine x v → Opt (ProgramCuts x) (program_in v)
program_fine x v fine = read_fine x (ProgramCuts x) (λ (m : Typed). m.program) (λ m f. f.program) v fine

-- the sites of a derived tree cut their literals
pub sites_cut : (l : Lang) (m : Mode) (x : List ℕ) (ts : List Token) (p : Program)
    → ((n : ℕ) (t : Token) → slice_get ts n ≡ Some t → is k.Str (seen (keys_of ts) n) ≡ true → StrCuts x (str_of x t))
    → Derives l m x ts p → Cut x (sites_of p)
sites_cut l m x ts p cut derived =
    let P : Option Program → Type 0 = λ o. Opt (ProgramCuts x) o in
    subst P derived.lowered
    (program_fine x (value_of x ts (tree_of derived.plain))
    (tree_fine x ts cut derived.plain (strs l m (keys_of ts) derived.plain derived.program.shaped)))
