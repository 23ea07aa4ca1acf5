-- Drafts that grow as the parts of a changed row do.
use Rattle.std.specs.Prelude.{ℕ, List, [], ◌∷◌, Bool}
use Rattle.std.specs.Option.{option_map}
use Rattle.std.proofs.Common.{◌≡◌, refl, sym, ap, subst, ◌∙◌}
use Rattle.es_grammar.specs.declared.rows.NodeKind.{NodeKind}
use Rattle.es_syntax.specs.declared.entry.Lean.{Lean}
use Rattle.es_syntax.specs.Held.{label_of}
use Rattle.es_changed.specs.declared.entry.Form.{Form}
use Rattle.es_changed.specs.declared.entry.ChangedEntry.{ChangedEntry}
use Rattle.es_printer.specs.declared.style.Style.{Style}
use Rattle.es_printer.specs.declared.style.Style.TheVariants.{Plain, Operator}
use Rattle.es_printer.specs.declared.piece.Source.{Source}
use Rattle.es_printer.specs.declared.page.Page.{Page as Paper}
use Rattle.es_printer.specs.declared.draft.Draft.{Draft}
use Rattle.es_printer.specs.Table.{style}
use Rattle.es_printer.specs.Sheet.{Sheet, Shown, put, before, behind, up_to, node}
use Rattle.es_printer.specs.Lines.{start, finished}
use Rattle.es_printer.specs.Paper.{lines_of}
use Rattle.es_printer.specs.Laid.{IsLaid, Grows}
use Rattle.es_printer.proofs.LaidLemmas.{nothing, follows, alike}
use Rattle.es_changed_printer.specs.declared.signs.Place.{Place}
use Rattle.es_changed_printer.specs.declared.signs.Place.TheVariants.{First}
use Rattle.es_changed_printer.specs.Signs.{style_in, opens, shuts, ahead, counted}
use Rattle.es_changed_printer.specs.Pieces.{Part, last_of, go_on, all, first, run, made_form, turn, turned, leant, leaning, standing, parts, printed}

module _ (src : Source) where
  -- ---- what prints nothing
  pub leaf : (d : Draft) → Grows src (λ s. s) d d
  leaf d = nothing src (λ s. s) d (λ s. refl)

  pub gone : (to : ℕ) (old new : Draft) → new.page ≡ old.page → new.next ≡ to → Grows src (go_on to) old new
  unfolding Grows
  gone to old new page next s is = (
    is.0 ∙ ap lines_of (sym page),
    is.1 ∙ ap (λ (p : Paper). p.ink.source) (sym page),
    sym next,
  )

  pub dropped_grows : (here : Style) (from to : ℕ) (o a b : Draft) → Grows src (up_to src.tokens.now here from) o a
      → Grows src (go_on to) a b → Grows src (λ s. go_on to (up_to src.tokens.now here from s)) o b
  dropped_grows here from to o a b one two = follows src (up_to src.tokens.now here from) (go_on to) o a b one two

  -- ---- nodes
  -- a node, by its tokens and what is printed in it
  around : (label : NodeKind) (from to : ℕ) (inside : Shown) (here own : Style) (o a b c d e : Draft)
      → own ≡ style label
      → Grows src (up_to src.tokens.now here from) o a → Grows src (put (before here own from)) a b
      → Grows src (inside own) b c → Grows src (up_to src.tokens.now own to) c d
      → Grows src (put (behind src.tokens.now here label to)) d e
      → Grows src (node src.tokens.now label from to inside here) o e
  unfolding Grows node
  around label from to inside here own o a b c d e is one two three four five s laid =
      let p = up_to src.tokens.now here from s in
      let q = put (before here own from) p in
      let r = inside own q in
      let t = up_to src.tokens.now own to r in
      subst (λ w. IsLaid src (put (behind src.tokens.now here label to) (up_to src.tokens.now w to
      (inside w (put (before here w from) (up_to src.tokens.now here from s))))) e) is
      (five t (four r (three q (two p (one s laid)))))

  pub node_grows : (label : NodeKind) (from to : ℕ) (ps : List Part) (here own : Style) (o a b c d e : Draft)
      → own ≡ style label
      → Grows src (up_to src.tokens.now here from) o a → Grows src (put (before here own from)) a b
      → Grows src (all ps own) b c → Grows src (up_to src.tokens.now own to) c d
      → Grows src (put (behind src.tokens.now here label to)) d e
      → Grows src (node src.tokens.now label from to (all ps) here) o e
  node_grows label from to ps here own o a b c d e is one two three four five =
      around label from to (all ps) here own o a b c d e is one two three four five

  -- a form that stands in the text
  pub standing_grows : (label : NodeKind) (f : Form) (from to : ℕ) (ps : List Part) (here own : Style)
      (o a b c d e g h i : Draft) → own ≡ style label
      → Grows src (up_to src.tokens.now here from) o a → Grows src (put (before here own from)) a b
      → Grows src (put (opens f from)) b c → Grows src (run f First ps own) c d
      → Grows src (up_to src.tokens.now own to) d e → Grows src (put (shuts f)) e g
      → Grows src (up_to src.tokens.now own to) g h → Grows src (put (behind src.tokens.now here label to)) h i
      → Grows src (standing src.tokens.now label f from to ps here) o i
  unfolding standing
  standing_grows label f from to ps here own o a b c d e g h i is one two three four five six seven eight =
      around label from to
      (λ own s. put (shuts f) (up_to src.tokens.now own to (run f First ps own (put (opens f from) s)))) here own
      o a b g h i is one two
      (follows src (λ s. up_to src.tokens.now own to (run f First ps own (put (opens f from) s))) (put (shuts f)) b e g
      (follows src (λ s. run f First ps own (put (opens f from) s)) (up_to src.tokens.now own to) b d e
      (follows src (put (opens f from)) (run f First ps own) b c d three four) five) six)
      seven eight

  -- a form that no text has
  pub made_grows : (f : Form) (from : ℕ) (ps : List Part) (here own : Style) (o a b c : Draft) → own ≡ style_in f here
      → Grows src (put (opens f from)) o a → Grows src (run f First ps own) a b → Grows src (put (shuts f)) b c
      → Grows src (made_form f from ps here) o c
  unfolding made_form
  made_grows f from ps here own o a b c is one two three =
      follows src (λ s. run f First ps (style_in f here) (put (opens f from) s)) (put (shuts f)) o b c
      (follows src (put (opens f from)) (run f First ps (style_in f here)) o a b one
      (subst (λ w. Grows src (run f First ps w) a b) is two)) three

  -- ---- the first part
  pub first_none : (ps : List Part) (here : Style) (d : Draft) → ps ≡ [] → Grows src (first ps here) d d
  first_none ps here d e = nothing src (first ps here) d (λ s. ap (λ qs. first qs here s) e)

  pub first_some : (ps qs : List Part) (p : Part) (here : Style) (old new : Draft) → ps ≡ p ∷ qs
      → Grows src (p.shown here) old new → Grows src (first ps here) old new
  first_some ps qs p here old new e so =
      subst (λ rs. Grows src (first rs here) old new) (sym e) so

  -- ---- lists: what is left of one turns a draft to what the whole list does
  abbrev Ends : (rest whole : Sheet → Sheet) (old d : Draft) → Type 0
  Ends rest whole old d = (new : Draft) → Grows src rest d new → Grows src whole old new

  pub all_none : (ps : List Part) (own : Style) (whole : Sheet → Sheet) (old d : Draft) → ps ≡ []
      → Ends (all ps own) whole old d → Grows src whole old d
  unfolding all
  all_none ps own whole old d e so =
      so d (nothing src (all ps own) d (λ s. ap (λ qs. all qs own s) e))

  pub all_more : (ps qs : List Part) (p : Part) (own : Style) (whole : Sheet → Sheet) (old d next : Draft)
      → ps ≡ p ∷ qs → Grows src (p.shown own) d next → Ends (all ps own) whole old d → Ends (all qs own) whole old next
  unfolding all
  all_more ps qs p own whole old d next e one so new more =
      so new (subst (λ rs. Grows src (all rs own) d new) (sym e) (follows src (p.shown own) (all qs own) d next new one more))

  pub run_none : (f : Form) (place : Place) (ps : List Part) (own : Style) (whole : Sheet → Sheet) (old d : Draft)
      → ps ≡ [] → Ends (run f place ps own) whole old d → Grows src whole old d
  run_none f place ps own whole old d e so =
      so d (nothing src (run f place ps own) d (λ s. ap (λ qs. run f place qs own s) e))

  pub run_more : (f : Form) (place then : Place) (counts : Bool) (ps qs : List Part) (p : Part) (own : Style)
      (whole : Sheet → Sheet) (old d mid next : Draft) → ps ≡ p ∷ qs → counts ≡ p.is_part
      → then ≡ counted place counts
      → Grows src (put (ahead f place counts)) d mid → Grows src (p.shown own) mid next
      → Ends (run f place ps own) whole old d → Ends (run f then qs own) whole old next
  run_more f place then counts ps qs p own whole old d mid next e is at one two so new more =
      so new (subst (λ rs. Grows src (run f place rs own) d new) (sym e)
      (subst (λ b. Grows src (λ s. run f (counted place b) qs own (p.shown own (put (ahead f place b) s))) d new) is
      (follows src (λ s. p.shown own (put (ahead f place counts) s)) (run f (counted place counts) qs own) d next new
      (follows src (put (ahead f place counts)) (p.shown own) d mid next one two)
      (subst (λ c. Grows src (run f c qs own) next new) at more))))

  -- ---- nodes that lean left
  pub turned_none : (ps : List Part) (whole : Sheet → Sheet) (old d : Draft) → ps ≡ []
      → Ends (turned src.tokens.now ps) whole old d → Grows src whole old d
  turned_none ps whole old d e so =
      so d (nothing src (turned src.tokens.now ps) d (λ s. ap (λ qs. turned src.tokens.now qs s) e))

  pub turned_more : (ps qs : List Part) (p : Part) (whole : Sheet → Sheet) (old d mid next : Draft)
      → ps ≡ p ∷ qs → Grows src (turn p.is_group p.shown) d mid → Grows src (up_to src.tokens.now Operator p.to) mid next
      → Ends (turned src.tokens.now ps) whole old d → Ends (turned src.tokens.now qs) whole old next
  turned_more ps qs p whole old d mid next e one two so new more =
      so new (subst (λ rs. Grows src (turned src.tokens.now rs) d new) (sym e)
      (follows src (λ s. up_to src.tokens.now Operator p.to (turn p.is_group p.shown s)) (turned src.tokens.now qs) d next
      new
      (follows src (turn p.is_group p.shown) (up_to src.tokens.now Operator p.to) d mid next one two) more))

  pub leant_grows : (lean : Lean) (label : NodeKind) (from to : ℕ) (p : Part) (us : List Part) (here : Style)
      (o a b c d e : Draft) → label ≡ label_of lean
      → Grows src (up_to src.tokens.now here from) o a → Grows src (put (before here Operator from)) a b
      → Grows src (p.shown Operator) b c → Grows src (turned src.tokens.now us) c d
      → to ≡ last_of from us → Grows src (put (behind src.tokens.now here label to)) d e
      → Grows src (leant src.tokens.now lean from p us here) o e
  unfolding Grows leant
  leant_grows lean label from to p us here o a b c d e named one two three four is five s laid =
      let q = up_to src.tokens.now here from s in
      let r = put (before here Operator from) q in
      let t = p.shown Operator r in
      let v = turned src.tokens.now us t in
      subst (λ n. IsLaid src (put (behind src.tokens.now here (label_of lean) n) (turned src.tokens.now us
      (p.shown Operator (put (before here Operator from) (up_to src.tokens.now here from s))))) e) is
      (subst (λ l. IsLaid src (put (behind src.tokens.now here l to) (turned src.tokens.now us
      (p.shown Operator (put (before here Operator from) (up_to src.tokens.now here from s))))) e) named
      (five v (four t (three r (two q (one s laid))))))

  pub leaning_none : (lean : Lean) (from : ℕ) (ps : List Part) (here : Style) (d : Draft) → ps ≡ []
      → Grows src (leaning src.tokens.now lean from ps here) d d
  unfolding leaning
  leaning_none lean from ps here d e =
      nothing src (leaning src.tokens.now lean from ps here) d
      (λ s. ap (λ qs. leaning src.tokens.now lean from qs here s) e)

  pub leaning_one : (lean : Lean) (from : ℕ) (ps qs : List Part) (p : Part) (here : Style) (d : Draft) → ps ≡ p ∷ qs
      → qs ≡ [] → Grows src (leaning src.tokens.now lean from ps here) d d
  unfolding leaning
  leaning_one lean from ps qs p here d e none =
      nothing src (leaning src.tokens.now lean from ps here) d
      (λ s. ap (λ rs. leaning src.tokens.now lean from rs here s) (e ∙ ap (◌∷◌ p) none))

  pub leaning_more : (lean : Lean) (from : ℕ) (ps qs rs : List Part) (p u : Part) (here : Style) (old new : Draft)
      → ps ≡ p ∷ qs → qs ≡ u ∷ rs → Grows src (leant src.tokens.now lean from p qs here) old new
      → Grows src (leaning src.tokens.now lean from ps here) old new
  unfolding leaning
  leaning_more lean from ps qs rs p u here old new is others so =
      alike src (leant src.tokens.now lean from p qs here) (leaning src.tokens.now lean from ps here) old new
      (λ s. ap (λ us. leaning src.tokens.now lean from us here s) (is ∙ ap (◌∷◌ p) others)
      ∙ ap (λ us. leant src.tokens.now lean from p us here s) (sym others)) so

  -- ---- the whole
  pub whole : (es : List ChangedEntry) (old new : Draft) → lines_of old.page ≡ start
      → old.page.ink.source ≡ src.text.now → old.next ≡ 0 → Grows src (first (parts src.tokens.now es) Plain) old new
      → finished (lines_of new.page) ≡ printed src.text.now src.tokens.now (option_map (λ c. c.now) src.comments) es
  unfolding Grows printed
  whole es old new page source next so =
      ap finished (sym (so (record { pieces = []; next = 0 }) (sym page, sym source, sym next)).0)

pub last_none : (ps : List Part) (to whole : ℕ) → ps ≡ [] → last_of to ps ≡ whole → to ≡ whole
last_none ps to whole e so = sym (ap (last_of to) e) ∙ so

pub last_more : (ps qs : List Part) (p : Part) (to whole : ℕ) → ps ≡ p ∷ qs → last_of to ps ≡ whole
    → last_of p.to qs ≡ whole
last_more ps qs p to whole is so = sym (ap (last_of to) is) ∙ so
