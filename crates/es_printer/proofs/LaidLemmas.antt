-- Drafts that grow, step by step.
use Rattle.std.specs.Prelude.{ℕ, suc, ◌-◌, ◌+◌, ◌<◌, ◌≤◌, List, [], ◌∷◌, ◌++◌, slice_get}
use Rattle.std.specs.Option.{option_map}
use Rattle.std.proofs.Common.{◌≡◌, refl, sym, ap, subst, ◌∙◌, arith}
use Rattle.std.proofs.lemmas.List.{append-nil, append_assoc}
use Rattle.es_token.specs.declared.token.Token.{Token}
use Rattle.es_grammar.specs.declared.rows.NodeKind.{NodeKind}
use Rattle.es_grammar.specs.declared.cst.tree.Cst.{Cst}
use Rattle.es_syntax.specs.declared.entry.Entry.{Entry}
use Rattle.es_syntax.specs.declared.entry.Lean.{Lean}
use Rattle.es_syntax.specs.Held.{label_of}
use Rattle.es_syntax.specs.Trees.{Kept, first_tree, trees, trees_in}
use Rattle.es_printer.specs.declared.style.Style.{Style}
use Rattle.es_printer.specs.declared.style.Style.TheVariants.{Plain, Operator}
use Rattle.es_printer.specs.declared.piece.Piece.{Piece}
use Rattle.es_printer.specs.declared.piece.Source.{Source}
use Rattle.es_printer.specs.declared.page.Page.{Page as Paper}
use Rattle.es_printer.specs.declared.draft.Draft.{Draft}
use Rattle.es_printer.specs.Table.{style}
use Rattle.es_printer.specs.Sheet.{Sheet, put, before, behind, token_at, tokens_from, up_to, node, shown}
use Rattle.es_printer.specs.Lines.{Page, step, laid, start, finished, printed}
use Rattle.es_printer.specs.Rows.{kept, all, turned, leant, last_of}
use Rattle.es_printer.specs.Paper.{lines_of}
use Rattle.es_printer.specs.Laid.{page_of, IsLaid, Grows}

-- the lines of pieces, and of others behind them
laid_both : (x : List ℕ) (ts : List Token) (src : Source) (p : Page) (qs rs : List Piece)
    → laid x ts (option_map (λ c. c.now) src.comments) p (qs ++ rs)
    ≡ laid x ts (option_map (λ c. c.now) src.comments) (laid x ts (option_map (λ c. c.now) src.comments) p qs) rs
laid_both x ts src p [] rs = refl
laid_both x ts src p (q ∷ qs) rs =
    laid_both x ts src (step x ts (option_map (λ c. c.now) src.comments) p q) qs rs

module _ (src : Source) where
  -- ---- pieces
  -- one
  pub grown : (q : Piece) (old new : Draft)
      → lines_of new.page
      ≡ step old.page.ink.source src.tokens.now (option_map (λ c. c.now) src.comments) (lines_of old.page) q
      → new.page.ink.source ≡ old.page.ink.source → new.next ≡ old.next → Grows src (put (q ∷ [])) old new
  unfolding Grows
  grown q old new page source next s is = (
    laid_both src.text.now src.tokens.now src start s.pieces (q ∷ [])
        ∙ ap (λ p. step src.text.now src.tokens.now (option_map (λ c. c.now) src.comments) p q) is.0
        ∙ ap (λ x. step x src.tokens.now (option_map (λ c. c.now) src.comments) (lines_of old.page) q) is.1
        ∙ sym page,
    is.1 ∙ sym source,
    is.2 ∙ sym next,
  )

  -- none
  pub none : (qs : List Piece) (d : Draft) → qs ≡ [] → Grows src (put qs) d d
  unfolding Grows
  none qs d e s is = (
    ap (λ rs. page_of src (record { pieces = s.pieces ++ rs; next = s.next })) e
        ∙ ap (λ rs. page_of src (record { pieces = rs; next = s.next })) (append-nil s.pieces) ∙ is.0,
    is.1,
    is.2,
  )

  -- those that another name has
  pub same : (qs rs : List Piece) (old new : Draft) → Grows src (put rs) old new → qs ≡ rs → Grows src (put qs) old new
  same qs rs old new so e = subst (λ ps. Grows src (put ps) old new) (sym e) so

  -- some, and more behind them
  pub both : (xs ys zs : List Piece) (old mid new : Draft) → Grows src (put xs) old mid → Grows src (put ys) mid new
      → zs ≡ xs ++ ys → Grows src (put zs) old new
  unfolding Grows
  both xs ys zs old mid new first second e s is =
      let so = second (put xs s) (first s is) in (
        ap (λ ps. page_of src (record { pieces = s.pieces ++ ps; next = s.next })) e
            ∙ ap (λ ps. page_of src (record { pieces = ps; next = s.next })) (sym (append_assoc s.pieces xs ys)) ∙ so.0,
        so.1,
        so.2,
      )

  -- ---- tokens
  module _ (own : Style) where
    -- what is printed of so many tokens from here on
    abbrev Left : ℕ → ℕ → Sheet → Sheet
    Left n at = put (tokens_from src.tokens.now own n at)

    -- no more tokens
    pub tokens_end : (whole : Sheet → Sheet) (old d : Draft) (at to : ℕ) → to ≤ at
        → ((new : Draft) → Grows src (Left (to - at) at) d new → Grows src whole old new) → Grows src whole old d
    tokens_end whole old d at to below so =
        let no : to - at ≡ 0 = omega (arith, below) in
        so d (none (tokens_from src.tokens.now own (to - at) at) d
        (ap (λ n. tokens_from src.tokens.now own n at) no))

    -- one more
    pub tokens_more : (whole : Sheet → Sheet) (old d next : Draft) (at to : ℕ) → at < to
        → Grows src (put (token_at src.tokens.now own at (slice_get src.tokens.now at))) d next
        → ((new : Draft) → Grows src (Left (to - at) at) d new → Grows src whole old new)
        → (new : Draft) → Grows src (Left (to - (at + 1)) (at + 1)) next new → Grows src whole old new
    tokens_more whole old d next at to below one so new more =
        so new (both (token_at src.tokens.now own at (slice_get src.tokens.now at))
        (tokens_from src.tokens.now own (to - (at + 1)) (at + 1)) (tokens_from src.tokens.now own (to - at) at)
        d next new one more (ap (λ n. tokens_from src.tokens.now own n at) (count at to below)))
      where
        count : (at to : ℕ) → at < to → to - at ≡ suc (to - (at + 1))
        count at to below = omega (arith, below)

    pub up_to_all : (to : ℕ) (old mid new : Draft)
        → Grows src (Left (to - old.next) old.next) old mid → new.page ≡ mid.page → new.next ≡ to
        → Grows src (up_to src.tokens.now own to) old new
    unfolding Grows up_to
    up_to_all to old mid new so page next s is = (
      ap (λ n. page_of src (record { pieces = s.pieces ++ tokens_from src.tokens.now own (to - n) n; next = n })) is.2
          ∙ (so s is).0 ∙ ap lines_of (sym page),
      (so s is).1 ∙ ap (λ (p : Paper). p.ink.source) (sym page),
      sym next,
    )

  -- ---- trees
  -- what is printed in another way
  pub alike : (f g : Sheet → Sheet) (old new : Draft) → ((s : Sheet) → g s ≡ f s) → Grows src f old new
      → Grows src g old new
  unfolding Grows
  alike f g old new e so s is =
      let it = so s is in (ap (page_of src) (e s) ∙ it.0, it.1, ap (λ (t : Sheet). t.next) (e s) ∙ it.2)

  -- nothing
  pub nothing : (g : Sheet → Sheet) (d : Draft) → ((s : Sheet) → g s ≡ s) → Grows src g d d
  unfolding Grows
  nothing g d e s is = (ap (page_of src) (e s) ∙ is.0, is.1, ap (λ (t : Sheet). t.next) (e s) ∙ is.2)

  -- one behind the other
  pub follows : (f g : Sheet → Sheet) (old mid new : Draft) → Grows src f old mid → Grows src g mid new
      → Grows src (λ s. g (f s)) old new
  unfolding Grows
  follows f g old mid new first second s is = second (f s) (first s is)

  -- a node, by its tokens and its parts
  pub node_grows : (label : NodeKind) (from to : ℕ) (us : List Cst) (here own : Style) (o a b c d e : Draft)
      → own ≡ style label
      → Grows src (up_to src.tokens.now here from) o a → Grows src (put (before here own from)) a b
      → Grows src (all src.tokens.now us own) b c → Grows src (up_to src.tokens.now own to) c d
      → Grows src (put (behind src.tokens.now here label to)) d e
      → Grows src (node src.tokens.now label from to (all src.tokens.now us) here) o e
  unfolding Grows node
  node_grows label from to us here own o a b c d e is one two three four five s laid =
      let p = up_to src.tokens.now here from s in
      let q = put (before here own from) p in
      let r = all src.tokens.now us own q in
      let t = up_to src.tokens.now own to r in
      subst (λ w. IsLaid src (put (behind src.tokens.now here label to) (up_to src.tokens.now w to
      (all src.tokens.now us w (put (before here w from) (up_to src.tokens.now here from s))))) e) is
      (five t (four r (three q (two p (one s laid)))))

  -- a node that leans left, by its tokens, its first operand and its turns
  pub leant_grows : (lean : Lean) (from to : ℕ) (t : Cst) (us : List Kept) (here : Style) (o a b c d e : Draft)
      → Grows src (up_to src.tokens.now here from) o a → Grows src (put (before here Operator from)) a b
      → Grows src (shown src.tokens.now t Operator) b c → Grows src (turned src.tokens.now us) c d
      → to ≡ last_of from us → Grows src (put (behind src.tokens.now here (label_of lean) to)) d e
      → Grows src (leant src.tokens.now lean from t us here) o e
  unfolding Grows leant
  leant_grows lean from to t us here o a b c d e one two three four is five s laid =
      let p = up_to src.tokens.now here from s in
      let q = put (before here Operator from) p in
      let r = shown src.tokens.now t Operator q in
      let v = turned src.tokens.now us r in
      subst (λ n. IsLaid src (put (behind src.tokens.now here (label_of lean) n) (turned src.tokens.now us
      (shown src.tokens.now t Operator (put (before here Operator from) (up_to src.tokens.now here from s))))) e) is
      (five v (four r (three q (two p (one s laid)))))

  -- ---- the whole
  pub whole : (es : List Entry) (old new : Draft) → lines_of old.page ≡ start → old.page.ink.source ≡ src.text.now
      → old.next ≡ 0 → Grows src (shown src.tokens.now (first_tree (trees_in (kept es))) Plain) old new
      → finished (lines_of new.page)
      ≡ printed src.text.now src.tokens.now (option_map (λ c. c.now) src.comments) (first_tree (trees es))
  unfolding Grows printed trees kept
  whole es old new page source next so =
      ap finished (sym (so (record { pieces = []; next = 0 }) (sym page, sym source, sym next)).0)
