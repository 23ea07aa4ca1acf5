-- A row that is a plain tree is the typed program of that tree.
use Rattle.std.specs.Prelude.{List, [], ◌∷◌, map}
use Rattle.std.specs.List.{flat_map}
use Rattle.std.proofs.Common.{◌≡◌, ℕ, sym, ap, ◌∙◌}
use Rattle.std.proofs.lemmas.List.{append-nil}
use Rattle.es_token.specs.declared.token.Token.{Token}
use Rattle.es_lexer.specs.Reads.{ReadsTokens}
use Rattle.es_site.specs.declared.site.Site.{Site}
use Rattle.es_grammar.specs.declared.cst.tree.Cst.{Cst}
use Rattle.es_lowering.specs.Value.{Value, part}
use Rattle.es_lowering.specs.Lowering.{packed, value_of}
use Rattle.es_lowering.specs.derives.Derives.{program_in}
use Rattle.es_law_sites.specs.plain.Own.{plain_sites}
use Rattle.es_syntax.specs.declared.entry.Entry.{Entry}
use Rattle.es_syntax.specs.Trees.{trees}
use Rattle.es_syntax.proofs.Rows.{held_trees}
use Rattle.es_program.specs.Typed.{program_at, HoldsSome}
use Rattle.es_parser.specs.Made.{IsTyped, HoldsTyped}

module _ (x : List ℕ) (ts : List Token) (es : List Entry) (tree : Cst) where
  pub row_typed : trees es ≡ tree ∷ [] → program_at x ts es ≡ program_in (value_of x ts tree)
  unfolding program_at
  row_typed is =
      ap (λ (v : Value). program_in (part v 0)) (sym (held_trees x ts es))
      ∙ ap (λ (us : List Cst). program_in (part (packed (map (value_of x ts) us)) 0)) is

  row_holds : (sites : List Site) → ReadsTokens x ts → IsTyped x ts tree → trees es ≡ tree ∷ []
      → sites ≡ flat_map (plain_sites x ts) (trees es) → HoldsSome x ts es sites
  row_holds sites reads made is found = (
    made.program,
    record {
      reads = reads;
      typed = row_typed is ∙ made.typed;
      are_sites = found ∙ (ap (flat_map (plain_sites x ts)) is ∙ (append-nil (plain_sites x ts tree) ∙ sym made.sites));
    },
  )

-- a row that is such a tree is the program, with the sites that were found
pub held_holds : (x : List ℕ) (ts : List Token) (es : List Entry) (sites : List Site) → ReadsTokens x ts
    → HoldsTyped x ts es → sites ≡ flat_map (plain_sites x ts) (trees es) → HoldsSome x ts es sites
held_holds x ts es sites reads held found = row_holds x ts es held.tree sites reads held.made held.row found
