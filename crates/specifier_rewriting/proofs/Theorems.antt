-- Sources that were parsed have the tree of their text, and so the sites of it.
use Rattle.std.proofs.Common.{◌≡◌, ℕ, List, sym, subst}
use Rattle.grammar_theory.specs.declared.error.Mode.{Mode}
use Rattle.es_ast.specs.declared.ast.Program.{Program}
use Rattle.es_program.specs.Owned.{Owned}
use Rattle.es_site.specs.declared.site.Site.{Site}
use Rattle.media_type.specs.declared.media_type.MediaType.{MediaType}
use Rattle.source_reading.specs.Read.{IsRead}
use Rattle.deno_ast.specs.declared.params.ParseParams.{ParseParams}
use Rattle.deno_ast.specs.Parsed.{Parsed, parsed_sites}
use Rattle.deno_ast.specs.Source.{IsParsed, lang_for}
use Rattle.specifier_edits.specs.Sites.{AreSites}
use Rattle.specifier_edits.proofs.Theorems.{read_sites}
use Rattle.specifier_rewriting.specs.Own.{IsOwnTree}

-- the sites of such a source are those of its text
pub own_sites : (s : Parsed) → IsOwnTree s → AreSites s.text (parsed_sites s)
own_sites s own = read_sites own.lang own.modes s.media_type s.text s.tree.typed s.references own.read

-- what is parsed, and no function has changed, is such a source
pub parsed_own : (modes : List Mode) (params : ParseParams) (text : List ℕ) (s : Parsed) → IsParsed modes params text s
    → IsOwnTree s
parsed_own modes params text s parsed =
    let Kept : Owned Program → MediaType → List ℕ → Type 0 =
    λ tree media x. IsRead (lang_for params) modes media x tree.typed s.references in
    record {
      lang = lang_for params;
      modes = modes;
      read = subst (λ (tree : Owned Program). Kept tree s.media_type s.text) (sym parsed.kept)
          (subst (λ (media : MediaType). Kept parsed.tree media s.text) (sym parsed.media_type)
          (subst (λ (x : List ℕ). Kept parsed.tree params.media_type x) (sym parsed.text_is) parsed.read));
    }

-- what holds of a text and its sites holds of equal ones
pub carry : (P : List ℕ → List Site → Type 0) (x y : List ℕ) (sites others : List Site) → x ≡ y → sites ≡ others
    → P x sites → P y others
carry P x y sites others e f h = subst (λ (ss : List Site). P y ss) f (subst (λ (z : List ℕ). P z sites) e h)
