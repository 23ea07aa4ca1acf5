-- What a walk prints of each form of a tree, and of lists.
use Rattle.std.specs.Prelude.{ℕ, List, [], ◌∷◌}
use Rattle.std.proofs.Common.{◌≡◌, sym, ap, subst, ◌∙◌}
use Rattle.es_token.specs.declared.token.Token.{Token}
use Rattle.es_grammar.specs.declared.rows.NodeKind.{NodeKind}
use Rattle.es_grammar.specs.declared.cst.tree.Cst.{Cst, out-Cst}
use Rattle.es_grammar.specs.declared.cst.tree.Cst.TheVariants as vCst
use Rattle.es_syntax.specs.declared.entry.Entry.{Entry}
use Rattle.es_syntax.specs.declared.entry.Lean.{Lean}
use Rattle.es_syntax.specs.Trees.{Kept, first_tree, leant_tree, trees_in, turn_parts}
use Rattle.es_printer.specs.declared.style.Style.{Style}
use Rattle.es_printer.specs.declared.style.Style.TheVariants.{Operator}
use Rattle.es_printer.specs.Sheet.{Sheet, node, shown, up_to}
use Rattle.es_printer.specs.declared.piece.Source.{Source}
use Rattle.es_printer.specs.declared.draft.Draft.{Draft}
use Rattle.es_printer.specs.Laid.{Grows}
use Rattle.es_printer.specs.Rows.{kept, all, turned, last_of, leant, leaning}
use Rattle.es_printer.proofs.LaidLemmas.{alike, nothing, follows}
use Rattle.es_printer.proofs.Equations.{shown_leaf, shown_node, shown_role, shown_parts}
use Rattle.es_printer.proofs.LeanLemmas.{shown_lean, leaning_leant}

module _ (src : Source) where
  pub walk_leaf : (at : ℕ) (here : Style) (d : Draft) → Grows src (shown src.tokens.now (vCst.Leaf at) here) d d
  walk_leaf at here d =
      nothing src (shown src.tokens.now (vCst.Leaf at) here) d (shown_leaf src.tokens.now at here)

  pub walk_node : (label : NodeKind) (from to : ℕ) (us : List Cst) (here : Style) (old new : Draft)
      → Grows src (node src.tokens.now label from to (all src.tokens.now us) here) old new
      → Grows src (shown src.tokens.now (vCst.Node label from to us) here) old new
  walk_node label from to us here old new so =
      alike src (node src.tokens.now label from to (all src.tokens.now us) here)
      (shown src.tokens.now (vCst.Node label from to us) here) old new
      (shown_node src.tokens.now label from to us here) so

  pub walk_role : (label : NodeKind) (t : Cst) (here : Style) (old new : Draft)
      → Grows src (shown src.tokens.now t here) old new
      → Grows src (shown src.tokens.now (vCst.Role label t) here) old new
  walk_role label t here old new so =
      alike src (shown src.tokens.now t here) (shown src.tokens.now (vCst.Role label t) here) old new
      (shown_role src.tokens.now label t here) so

  pub walk_parts : (us : List Cst) (here : Style) (old new : Draft) → Grows src (all src.tokens.now us here) old new
      → Grows src (shown src.tokens.now (vCst.Parts us) here) old new
  walk_parts us here old new so =
      alike src (all src.tokens.now us here) (shown src.tokens.now (vCst.Parts us) here) old new
      (shown_parts src.tokens.now us here) so

  pub walk_lean : (lean : Lean) (from : ℕ) (us : List Kept) (here : Style) (old new : Draft)
      → Grows src (leaning src.tokens.now lean from us here) old new
      → Grows src (shown src.tokens.now (leant_tree lean from us) here) old new
  walk_lean lean from us here old new so =
      alike src (leaning src.tokens.now lean from us here) (shown src.tokens.now (leant_tree lean from us) here) old new
      (shown_lean src.tokens.now lean from us here) so

  -- no tree is printed as nothing
  pub first_none : (us : List Kept) (here : Style) (d : Draft) → us ≡ []
      → Grows src (shown src.tokens.now (first_tree (trees_in us)) here) d d
  unfolding all
  first_none us here d e =
      nothing src (shown src.tokens.now (first_tree (trees_in us)) here) d
      (λ s. ap (λ vs. shown src.tokens.now (first_tree (trees_in vs)) here s) e ∙ shown_parts src.tokens.now [] here s)

  pub first_some : (us vs : List Kept) (u : Kept) (here : Style) (old new : Draft) → us ≡ u ∷ vs
      → Grows src (shown src.tokens.now u.1 here) old new
      → Grows src (shown src.tokens.now (first_tree (trees_in us)) here) old new
  first_some us vs u here old new e so =
      subst (λ ws. Grows src (shown src.tokens.now (first_tree (trees_in ws)) here) old new) (sym e) so

  -- ---- lists
  pub all_bare : (es : List Entry) (own : Style) (d : Draft)
      → ((ts : List Token) (w : Style) (s : Sheet) → all ts (trees_in (kept es)) w s ≡ s)
      → Grows src (all src.tokens.now (trees_in (kept es)) own) d d
  all_bare es own d so = nothing src (all src.tokens.now (trees_in (kept es)) own) d (so src.tokens.now own)

  -- what is left of a list turns a draft to what the whole list does
  abbrev Ends : (rest whole : Sheet → Sheet) (old d : Draft) → Type 0
  Ends rest whole old d = (new : Draft) → Grows src rest d new → Grows src whole old new

  pub all_none : (us : List Kept) (own : Style) (whole : Sheet → Sheet) (old d : Draft) → us ≡ []
      → Ends (all src.tokens.now (trees_in us) own) whole old d → Grows src whole old d
  unfolding all
  all_none us own whole old d e so =
      so d (nothing src (all src.tokens.now (trees_in us) own) d
      (λ s. ap (λ vs. all src.tokens.now (trees_in vs) own s) e))

  pub all_more : (us vs : List Kept) (u : Kept) (own : Style) (whole : Sheet → Sheet) (old d next : Draft)
      → us ≡ u ∷ vs → Grows src (shown src.tokens.now u.1 own) d next
      → Ends (all src.tokens.now (trees_in us) own) whole old d
      → Ends (all src.tokens.now (trees_in vs) own) whole old next
  unfolding all
  all_more us vs u own whole old d next e one so new more =
      so new (subst (λ ws. Grows src (all src.tokens.now (trees_in ws) own) d new) (sym e)
      (follows src (shown src.tokens.now u.1 own) (all src.tokens.now (trees_in vs) own) d next new one more))

  pub turned_none : (us : List Kept) (whole : Sheet → Sheet) (old d : Draft) → us ≡ []
      → Ends (turned src.tokens.now us) whole old d → Grows src whole old d
  turned_none us whole old d e so =
      so d (nothing src (turned src.tokens.now us) d (λ s. ap (λ vs. turned src.tokens.now vs s) e))

  pub turned_more : (us vs : List Kept) (u : Kept) (ps : List Cst) (whole : Sheet → Sheet) (old d mid next : Draft)
      → us ≡ u ∷ vs → ps ≡ turn_parts (out-Cst u.1) → Grows src (all src.tokens.now ps Operator) d mid
      → Grows src (up_to src.tokens.now Operator u.0) mid next
      → Ends (turned src.tokens.now us) whole old d → Ends (turned src.tokens.now vs) whole old next
  turned_more us vs u ps whole old d mid next e is one two so new more =
      so new (subst (λ ws. Grows src (turned src.tokens.now ws) d new) (sym e)
      (follows src
      (λ s. up_to src.tokens.now Operator u.0 (all src.tokens.now (turn_parts (out-Cst u.1)) Operator s))
      (turned src.tokens.now vs) d next new
      (follows src (all src.tokens.now (turn_parts (out-Cst u.1)) Operator) (up_to src.tokens.now Operator u.0) d mid
      next
      (subst (λ qs. Grows src (all src.tokens.now qs Operator) d mid) is one) two) more))

  -- ---- fewer parts than a first operand and a turn
  pub leaning_none : (lean : Lean) (from : ℕ) (us : List Kept) (here : Style) (d : Draft) → us ≡ []
      → Grows src (leaning src.tokens.now lean from us here) d d
  unfolding leaning
  leaning_none lean from us here d e =
      nothing src (leaning src.tokens.now lean from us here) d
      (λ s. ap (λ vs. leaning src.tokens.now lean from vs here s) e)

  pub leaning_one : (lean : Lean) (from : ℕ) (us vs : List Kept) (t : Kept) (here : Style) (d : Draft) → us ≡ t ∷ vs
      → vs ≡ [] → Grows src (leaning src.tokens.now lean from us here) d d
  unfolding leaning
  leaning_one lean from us vs t here d e none =
      nothing src (leaning src.tokens.now lean from us here) d
      (λ s. ap (λ ws. leaning src.tokens.now lean from ws here s) (e ∙ ap (◌∷◌ t) none))

  pub leaning_more : (lean : Lean) (from : ℕ) (us vs ws : List Kept) (t u : Kept) (here : Style) (old new : Draft)
      → us ≡ t ∷ vs → vs ≡ u ∷ ws → Grows src (leant src.tokens.now lean from t.1 vs here) old new
      → Grows src (leaning src.tokens.now lean from us here) old new
  leaning_more lean from us vs ws t u here old new is others so =
      alike src (leant src.tokens.now lean from t.1 vs here) (leaning src.tokens.now lean from us here) old new
      (λ s. leaning_leant src.tokens.now lean from us vs ws t u here s is others) so

pub last_none : (us : List Kept) (to whole : ℕ) → us ≡ [] → last_of to us ≡ whole → to ≡ whole
last_none us to whole e so = sym (ap (last_of to) e) ∙ so

pub last_more : (us vs : List Kept) (u : Kept) (to whole : ℕ) → us ≡ u ∷ vs → last_of to us ≡ whole
    → last_of u.0 vs ≡ whole
last_more us vs u to whole is so = sym (ap (last_of to) is) ∙ so
