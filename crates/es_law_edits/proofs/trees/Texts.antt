-- What holds of the tokens of a text and of those of the text with the changes.
use Rattle.std.specs.Prelude.{slice_get, Option, Some, None, option_map, if◌then◌else◌}
use Rattle.std.proofs.Common.{◌≡◌, ℕ, ◌+◌, ◌-◌, ◌<◌, ◌≤◌, Bool, true, false, List, [], ◌∷◌, length, drop, slice_range, refl, sym, ◌∙◌, ap, arith}
use Rattle.std.proofs.lemmas.List.{length-take}
use Rattle.std.proofs.lemmas.Option.{slice_get-map}
use Rattle.base.specs.declared.range.Range.{Range}
use Rattle.es_token.specs.declared.token.Token.{Token}
use Rattle.es_token.specs.declared.token.Comment.{Comment}
use Rattle.es_token.specs.declared.token.TokenKind.{TokenKind}
use Rattle.es_token.specs.declared.token.TokenKind.TheVariants as k
use Rattle.es_lexer.specs.Reads.{Reads}
use Rattle.es_lexer.proofs.Theorems.{reads_spells}
use Rattle.grammar_theory.specs.Key.{same_kind}
use Rattle.es_ast.specs.declared.ts.leaf.Ident.{Ident}
use Rattle.es_ast.specs.declared.ts.leaf.TplElement.{TplElement}
use Rattle.source_text.specs.declared.text_changes.change.TextChange.{TextChange}
use Rattle.es_lowering.specs.Texts.{private_of, piece_at, piece_of, stop_of, shebang_of}
use Rattle.es_law_edits.specs.tokens.Moved.{moved, token_to, cut, text_to, is_range, Chosen}
use Rattle.es_law_edits.proofs.tokens.Theorems.{text_moves}
use Rattle.es_law_edits.specs.moved.Move.{range_to, put}
use Rattle.es_law_edits.specs.moved.Leaves.{ident_to, tpl_element_to}
use Rattle.es_law_edits.proofs.moved.Rel.{Same, By, Opt, none, some}
use Rattle.es_law_edits.proofs.moved.Same.{same3}
use Rattle.es_law_edits.proofs.moved_lowering.Frame.{Texts}
use Rattle.es_law_edits.specs.trees.Changed.{edited, tokens_to, new_at, move_of}
use Rattle.es_law_edits.proofs.trees.Places.{Ordered, ordered, Other, shifts, front_stays, no_new}
use Rattle.es_law_edits.proofs.trees.Pieces.{piece_size}
use Rattle.es_law_edits.proofs.trees.Slices.{same_inner}

-- ---- what the changes put at a range
put_if : (b : Bool) (t : List ℕ) (o : Option (List ℕ)) (u v : List ℕ) → v ≡ put o u
    → (if b then t else v) ≡ put (if b then Some t else o) u
put_if true t o u v e = refl
put_if false t o u v e = e

text_put : (changes : List TextChange) (x : List ℕ) (r : Range)
    → text_to changes x r ≡ put (new_at changes r) (cut x r)
unfolding text_to new_at
text_put [] x r = refl
text_put (c ∷ cs) x r =
    put_if (is_range c.range r) c.new_text (new_at cs r) (cut x r) (text_to cs x r) (text_put cs x r)

-- ---- kinds that are no string literal's
private_other : (t : Token) → same_kind t.kind k.PrivateName ≡ true → Other t
private_other t e f =
    let same : same_kind t.kind k.PrivateName ≡ false = ap (λ (j : TokenKind). same_kind j k.PrivateName) f in
    let bad : ⊥ = cc in bad

shebang_other : (t : Token) → same_kind t.kind k.Shebang ≡ true → Other t
shebang_other t e f =
    let same : same_kind t.kind k.Shebang ≡ false = ap (λ (j : TokenKind). same_kind j k.Shebang) f in
    let bad : ⊥ = cc in bad

piece_other : (t : Token) (stop : ℕ) → stop_of t.kind ≡ Some stop → Other t
unfolding stop_of
piece_other t stop e f =
    let same : stop_of t.kind ≡ None = ap stop_of f in
    let bad : ⊥ = cc in bad

-- ---- both are absent, or both are there
if_both : {A B : Type 0} {R : A → B → Type 0} (b : Bool) (o : A) (p : B) → (b ≡ true → R o p)
    → Opt R (if b then Some o else None) (if b then Some p else None)
if_both true o p h = some (h refl)
if_both false o p h = none

map_both : {A B C : Type 0} {R : B → C → Type 0} (o : Option A) (f : A → B) (g : A → C)
    → ((a : A) → o ≡ Some a → R (f a) (g a)) → Opt R (option_map f o) (option_map g o)
map_both None f g h = none
map_both (Some a) f g h = some (h a refl)

slice_size : (x : List ℕ) (a b : ℕ) → length (slice_range x a b) ≤ b - a
slice_size x a b = let size = length-take (b - a) (drop a x) in omega (arith, size)

module _ (x : List ℕ) (ts : List Token) (cs : List Comment) (changes : List TextChange) (read : Reads x ts cs)
    (chosen : Chosen ts changes) where
  abbrev y : List ℕ
  y = edited x changes

  order : Ordered ts
  order = ordered x ts cs read

  slices : (n : ℕ) (t : Token) → slice_get ts n ≡ Some t
      → slice_range y (moved changes t.range.start) (moved changes t.range.end)
      ≡ put (new_at changes t.range) (slice_range x t.range.start t.range.end)
  slices n t g = text_moves x ts cs changes n t read chosen g ∙ text_put changes x t.range

  -- a part of the text of a token that is no string literal: so many bytes behind its start, so many before its end
  part_stays : (n : ℕ) (t : Token) → slice_get ts n ≡ Some t → Other t → (i j p q : ℕ)
      → p ≡ moved changes t.range.end - j → q ≡ t.range.end - j
      → slice_range y (moved changes t.range.start + i) p ≡ slice_range x (t.range.start + i) q
  part_stays n t g never i j p q e f =
      let size : t.range.start < t.range.end = order.within n t g in
      let shift = shifts ts n t changes t.range.end order chosen g never (omega (arith, size)) (omega arith) in
      let same : slice_range y (moved changes t.range.start) (moved changes t.range.end)
      ≡ slice_range x t.range.start t.range.end =
      slices n t g
      ∙ ap (λ o. put o (slice_range x t.range.start t.range.end)) (no_new ts n t changes order chosen g never) in
      same_inner x y t.range.start t.range.end (moved changes t.range.start) (moved changes t.range.end) i j p q same e
      f
      (omega (arith, shift, size))

  private_moves : (n : ℕ) (t : Token) → slice_get ts n ≡ Some t → same_kind t.kind k.PrivateName ≡ true
      → By (ident_to (move_of changes))
      (record { sym = slice_range x (t.range.start + 1) t.range.end; ctxt = 0; optional = false; span = t.range })
      (record {
        sym = slice_range y (moved changes t.range.start + 1) (moved changes t.range.end);
        ctxt = 0;
        optional = false;
        span = range_to (move_of changes) t.range;
      })
  unfolding ident_to
  private_moves n t g e =
      let make : List ℕ → Ident =
      λ s. record { sym = s; ctxt = 0; optional = false; span = range_to (move_of changes) t.range } in
      let never : Other t = private_other t e in
      record {
        is = ap make (part_stays n t g never 1 0 (moved changes t.range.end) t.range.end (omega arith) (omega arith)
            ∙ sym (ap (λ o. put o (slice_range x (t.range.start + 1) t.range.end))
            (no_new ts n t changes order chosen g never)));
      }

  privates : (n : ℕ) (t : Token) → slice_get ts n ≡ Some t
      → Opt (By (ident_to (move_of changes))) (private_of x t) (private_of y (token_to (moved changes) t))
  unfolding private_of range_to
  privates n t g = if_both (same_kind t.kind k.PrivateName) _ _ (λ e. private_moves n t g e)

  shebangs : (n : ℕ) (t : Token) → slice_get ts n ≡ Some t
      → Opt Same (shebang_of x t) (shebang_of y (token_to (moved changes) t))
  unfolding shebang_of
  shebangs n t g =
      if_both (same_kind t.kind k.Shebang) _ _
      (λ e. part_stays n t g (shebang_other t e) 2 0 (moved changes t.range.end) t.range.end (omega arith)
      (omega arith))

  piece_moves : (n : ℕ) (t : Token) (stop : ℕ) → slice_get ts n ≡ Some t → stop_of t.kind ≡ Some stop
      → By (tpl_element_to (move_of changes)) (piece_at x (t.range.start + 1) (t.range.end - stop))
      (piece_at y (moved changes t.range.start + 1) (moved changes t.range.end - stop))
  unfolding tpl_element_to range_to
  piece_moves n t stop g e =
      let never : Other t = piece_other t stop e in
      let size : t.range.start < t.range.end = order.within n t g in
      let spells = reads_spells x ts cs n t read g in
      let room = piece_size spells.0 t.kind (slice_range x t.range.start t.range.end) stop e spells.1 in
      let most = slice_size x t.range.start t.range.end in
      let whole = shifts ts n t changes t.range.end order chosen g never (omega (arith, size)) (omega arith) in
      let first = shifts ts n t changes (t.range.start + 1) order chosen g never (omega arith) (omega (arith, size)) in
      let last =
      shifts ts n t changes (t.range.end - stop) order chosen g never (omega (arith, room, most)) (omega arith) in
      let make : List ℕ → ℕ → ℕ → TplElement =
      λ s a b. record { raw = s; span = record { start = a; end = b } } in
      record {
        is = same3 make (part_stays n t g never 1 stop _ _ refl refl) (omega (arith, first))
            (omega (arith, whole, last, room, most));
      }

  pieces : (n : ℕ) (t : Token) → slice_get ts n ≡ Some t
      → Opt (By (tpl_element_to (move_of changes))) (piece_of x t) (piece_of y (token_to (moved changes) t))
  unfolding piece_of
  pieces n t g = map_both (stop_of t.kind) _ _ (λ stop e. piece_moves n t stop g e)

  tokens : (n : ℕ) → slice_get (tokens_to changes ts) n ≡ option_map (token_to (moved changes)) (slice_get ts n)
  tokens n = slice_get-map (token_to (moved changes)) ts n

  pub texts : Texts (move_of changes) x (edited x changes) ts (tokens_to changes ts)
  unfolding range_to
  texts = record {
    tokens = tokens;
    front = front_stays ts changes order chosen;
    slices = slices;
    privates = privates;
    pieces = pieces;
    shebangs = shebangs;
  }
