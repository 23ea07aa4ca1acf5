-- The sites that are found in the row of a plain tree are those of the typed tree of the tokens.
use Rattle.std.specs.Prelude.{Result, Ok, Err, IfOk}
use Rattle.std.specs.List.{flat_map}
use Rattle.std.specs.Result.{IfErr}
use Rattle.std.proofs.Common.{◌≡◌, refl, sym, ap, ◌∙◌, ℕ, List, [], ◌∷◌, ◌++◌, inl, inr}
use Rattle.std.proofs.lemmas.List.{append-nil}
use Rattle.es_token.specs.declared.token.Token.{Token}
use Rattle.es_token.specs.declared.token.Comment.{Comment}
use Rattle.es_lexer.specs.Reads.{Reads}
use Rattle.grammar_theory.specs.declared.error.Lang.{Lang}
use Rattle.grammar_theory.specs.declared.error.Mode.{Mode}
use Rattle.grammar_theory.specs.declared.error.Mode.TheVariants.{Script, Module}
use Rattle.grammar_theory.specs.declared.error.SyntaxError.{SyntaxError}
use Rattle.grammar_theory.specs.declared.error.SyntaxError.TheVariants.{Syntax, OutOfMemory}
use Rattle.grammar_theory.specs.Key.{keys_of}
use Rattle.es_ast.specs.declared.ast.Program.{Program}
use Rattle.es_site.specs.declared.site.Site.{Site}
use Rattle.es_site.specs.Sites.{sites_of}
use Rattle.es_grammar.specs.declared.cst.tree.Cst.{Cst}
use Rattle.es_grammar.specs.cst.Slim.{tree_of}
use Rattle.es_syntax.specs.declared.entry.Entry.{Entry}
use Rattle.es_syntax.specs.Trees.{trees}
use Rattle.es_program_reader.specs.Program.{IsKept, HoldsKept}
use Rattle.es_program_reader.specs.Derived.{IsRowOf, GivesTree as GivesPlain}
use Rattle.es_lowering.specs.derives.Derives.{Derives}
use Rattle.es_lowering.proofs.derives.Theorems.{one_tree}
use Rattle.es_law_sites.specs.plain.Own.{plain_sites}
use Rattle.es_law_programs.proofs.sites.Theorems.{kept_sites}
use Rattle.es_law_programs.proofs.both_sites.Theorems.{derives_or_not, same_sites}
use Rattle.media_type.specs.declared.media_type.MediaType.{MediaType}
use Rattle.source_reading.specs.Tree.{IsFirstTree}
use Rattle.source_reading.specs.Read.{references_in, HasSitesIn}
use Rattle.source_sites.specs.Answers.{AreOf, AreSitesIn, GivesSites}
use Rattle.source_reading.proofs.TreeLemmas.{first_once}

-- what holds of the trees of these sites
pub AreOf-weaker : (P Q : Program → Type 0) → ((tree : Program) → P tree → Q tree) → (found : List Site) → AreOf P found
    → AreOf Q found
AreOf-weaker P Q step found of = record { tree = of.tree; is = step of.tree of.is; sites = of.sites }

module _ (l : Lang) (m : Mode) (x : List ℕ) (ts : List Token) where
  -- a derived tree is that of a plain tree which is kept
  pub kept_of : (p : Program) → (derived : Derives l m x ts p) → IsKept l m (keys_of ts) (tree_of derived.plain)
  kept_of p derived = record { plain = derived.plain; program = derived.program; kept = refl }

  -- the sites of the one tree of a row
  row_sites : (es : List Entry) (kept : Cst) (found : List Site) → IsRowOf kept es
      → found ≡ flat_map (plain_sites x ts) (trees es) → found ≡ plain_sites x ts kept
  row_sites es kept found row same =
      same ∙ ap (λ (us : List Cst). flat_map (plain_sites x ts) us) row ∙ append-nil (plain_sites x ts kept)

  -- what is kept has a typed tree, with these sites
  pub derived_sites : (es : List Entry) (found : List Site) → HoldsKept l m (keys_of ts) es
      → found ≡ flat_map (plain_sites x ts) (trees es) → AreOf (Derives l m x ts) found
  derived_sites es found holds same =
      let is = holds.kept in
      let typed = kept_sites l m x ts is.plain holds.tree is.program is.kept in
      record { tree = typed.0; is = typed.1; sites = row_sites es holds.tree found holds.row same ∙ sym typed.2 }

  -- and no other
  pub only_sites : (found : List Site) (p : Program) → AreOf (Derives l m x ts) found → Derives l m x ts p
      → found ≡ sites_of p
  only_sites found p of derived = of.sites ∙ ap sites_of (one_tree l m x ts of.tree p of.is derived)

  pub kept_given : (es : List Entry) (r : Result (List Site) SyntaxError) (p : Program) → HoldsKept l m (keys_of ts) es
      → IfOk r (λ found. found ≡ flat_map (plain_sites x ts) (trees es)) → IfErr r (λ e. e ≡ OutOfMemory)
      → Derives l m x ts p → GivesSites r p
  kept_given es (Ok found) p holds same memory derived =
      only_sites found p (derived_sites es found holds same) derived
  kept_given es (Err (Syntax token)) p holds same memory derived = let bad : ⊥ = cc in bad
  kept_given es (Err OutOfMemory) p holds same memory derived = tt

-- a refusal of the plain tree is one of the sites
pub refused : (e : SyntaxError) (p : Program) (tree : Cst) → GivesPlain (Err e) tree → GivesSites (Err e) p
refused (Syntax token) p tree given = absurd given
refused OutOfMemory p tree given = tt

module _ (lang : Lang) (text : List ℕ) (tokens : List Token) where
  -- the sites of one tree at most
  pub first_sites : (modes : List Mode) (found : List Site) (p : Program)
      → AreOf (IsFirstTree lang text tokens modes) found
      → IsFirstTree lang text tokens modes p → found ≡ sites_of p
  first_sites modes found p of is = of.sites ∙ ap sites_of (first_once lang text tokens modes of.tree p of.is is)

  -- the sites of a tree of two modes: what was read, or what is to be read later
  pub first_given : (m n : Mode) (r : Result (List Site) SyntaxError) (p : Program)
      → ((tree : Program) → Derives lang m text tokens tree → GivesSites r tree)
      → ((tree : Program) → Derives lang n text tokens tree → GivesSites r tree)
      → IsFirstTree lang text tokens (m ∷ n ∷ []) p → GivesSites r p
  first_given m n r p one other (inl is) = one p is
  first_given m n r p one other (inr (none, inl is)) = other p is
  first_given m n r p one other (inr (none, inr is)) = absurd is.1

  -- what is read as a module has the sites of the tree of the first mode: those of a script, where it is one
  pub module_sites : (found : List Site) → AreOf (Derives lang Module text tokens) found
      → AreOf (IsFirstTree lang text tokens (Script ∷ Module ∷ [])) found
  module_sites found of =
      elim (derives_or_not text tokens lang Script) [
        | inl script ↦ record {
          tree = script.0;
          is = inl script.1;
          sites = of.sites ∙ sym (same_sites text tokens lang script.0 of.tree script.1 of.is);
        }
        | inr none ↦ record { tree = of.tree; is = inr (none, inl of.is); sites = of.sites }
      ]

  -- of one mode
  pub only_given : (m : Mode) (r : Result (List Site) SyntaxError) (p : Program)
      → ((tree : Program) → Derives lang m text tokens tree → GivesSites r tree)
      → IsFirstTree lang text tokens (m ∷ []) p → GivesSites r p
  only_given m r p one (inl is) = one p is
  only_given m r p one (inr is) = absurd is.1

-- reference comments come first
pub has_sites : (lang : Lang) (media : MediaType) (text : List ℕ) (tokens : List Token) (comments : List Comment)
    (found all : List Site) → Reads text tokens comments → AreSitesIn lang media text tokens found
    → all ≡ references_in media tokens comments ++ found → HasSitesIn lang media text all
has_sites lang media text tokens comments found all reads of both = record {
  tree = of.tree;
  references = references_in media tokens comments;
  read = record { tokens = tokens; comments = comments; reads = reads; is_tree = of.is; refers = refl };
  both = both ∙ ap (λ (s : List Site). references_in media tokens comments ++ s) of.sites;
}
