-- What is left while a walk is on its way.
use Rattle.std.specs.Prelude.{ℕ, zero, suc, ◌+◌, ◌-◌, ◌≤◌, ◌<◌, Bool, true, false, ◌||◌, List, [], ◌∷◌, ◌++◌, length}
use Rattle.std.proofs.Common.{◌≡◌, refl, sym, ap, subst, ◌∙◌, arith}
use Rattle.std.proofs.lemmas.List.{append-nil, append_assoc, length-append}
use Rattle.es_syntax.specs.declared.entry.Entry.{Entry}
use Rattle.es_syntax.specs.declared.cursor.Item.{Item}
use Rattle.es_syntax.specs.declared.cursor.Siblings.{Siblings}
use Rattle.es_site.specs.Sites.{Found}
use Rattle.es_law_sites.specs.plain.Part.{Part, nil, more}
use Rattle.es_tree_sites.specs.declared.plan.Way.{Way}
use Rattle.es_tree_sites.specs.declared.source.TokenizedText.{TokenizedText}
use Rattle.es_tree_sites.specs.declared.walk.Left.{Left}
use Rattle.es_tree_sites.specs.Named.{may_name, any_may_name, Unnamed}
use Rattle.es_tree_sites.specs.Parts.{Heads}
use Rattle.es_tree_sites.specs.Plan.{taken, on, first_way, other_ways}
use Rattle.es_tree_sites.specs.Left.{left_sites, ahead, weight}

-- ---- levels
pub ahead_none : (source : TokenizedText) → ahead source [] ≡ []
unfolding ahead
ahead_none source = refl

pub ahead_one : (source : TokenizedText) (l : Left) → ahead source (l ∷ []) ≡ left_sites source l
unfolding ahead
ahead_one source l = refl

pub ahead_more : (source : TokenizedText) (ls : List Left) (l : Left)
    → ahead source (ls ++ l ∷ []) ≡ left_sites source l ++ ahead source ls
unfolding ahead
ahead_more source [] l = sym (append-nil (left_sites source l))
ahead_more source (k ∷ ls) l =
    ap (λ s. s ++ left_sites source k) (ahead_more source ls l)
    ∙ append_assoc (left_sites source l) (ahead source ls) (left_sites source k)

pub weight_more : (ls : List Left) (l : Left)
    → weight (ls ++ l ∷ []) ≡ weight ls + suc (length l.parts.entries.now + length l.parts.entries.now)
unfolding weight
weight_more [] l = omega arith
weight_more (k ∷ ls) l = let more = weight_more ls l in omega (arith, more)

-- ---- entries that can name no module
nor : (a b : Bool) → a ≡ false → b ≡ false → (a || b) ≡ false
nor true b e f = absurd (let bad : ⊥ = cc in bad)
nor false b e f = f

-- so many stand before, and there they end
pub none_in : (a b : List Entry) (n : ℕ) → Unnamed n (a ++ b) → length a ≤ n → any_may_name a ≡ false
none_in [] b n u le = refl
none_in (e ∷ a) b zero u le = absurd (omega arith)
none_in (e ∷ a) b (suc n) u le = nor (may_name e.what) (any_may_name a) u.0 (none_in a b n u.1 (omega arith))

pub none_behind : (a b : List Entry) (n m : ℕ) → Unnamed n (a ++ b) → n ≡ length a + m → Unnamed m b
none_behind [] b n m u is = subst (λ k. Unnamed k b) (let so : n ≡ m = omega (arith, is) in so) u
none_behind (e ∷ a) b zero m u is = absurd (omega arith)
none_behind (e ∷ a) b (suc n) m u is = none_behind a b n m u.1 (omega arith)

pub none_before : (a b : List Entry) (n : ℕ) → Unnamed n (a ++ b) → Unnamed n a
none_before [] b zero u = tt
none_before [] b (suc n) u = tt
none_before (e ∷ a) b zero u = tt
none_before (e ∷ a) b (suc n) u = (u.0, none_before a b n u.1)

module _ (es : List Entry) (i : Item) (s : Siblings) (h : Heads es i s) where
  front : (n : ℕ) → Unnamed n es → Unnamed n (h.head ∷ (i.parts.entries.now ++ s.entries.now))
  front n u = subst (λ r. Unnamed n r) h.entries u

  pub heads_size : length es ≡ suc (length i.parts.entries.now + length s.entries.now)
  heads_size = ap length h.entries ∙ ap suc (length-append i.parts.entries.now s.entries.now)

  -- before the first that can, what stands there can't, nor can its parts
  pub item_unnamed : (n m : ℕ) → Unnamed n es → n ≡ suc (length i.parts.entries.now + m) → may_name i.what ≡ false
  item_unnamed zero m u is = absurd (omega (arith, is))
  item_unnamed (suc n) m u is = sym (ap may_name h.what) ∙ (front (suc n) u).0

  pub parts_unnamed : (n m : ℕ) → Unnamed n es → n ≡ suc (length i.parts.entries.now + m)
      → any_may_name i.parts.entries.now ≡ false
  parts_unnamed zero m u is = absurd (omega (arith, is))
  parts_unnamed (suc n) m u is =
      none_in i.parts.entries.now s.entries.now n (front (suc n) u).1 (omega (arith, is))

  pub behind_unnamed : (n m : ℕ) → Unnamed n es → n ≡ suc (length i.parts.entries.now + m) → Unnamed m s.entries.now
  behind_unnamed zero m u is = absurd (omega (arith, is))
  behind_unnamed (suc n) m u is =
      none_behind i.parts.entries.now s.entries.now n m (front (suc n) u).1 (omega (arith, is))

  pub inside_unnamed : (n m : ℕ) → Unnamed n es → n ≡ suc m → Unnamed m i.parts.entries.now
  inside_unnamed zero m u is = absurd (omega (arith, is))
  inside_unnamed (suc n) m u is =
      none_before i.parts.entries.now s.entries.now m
      (subst (λ k. Unnamed k (i.parts.entries.now ++ s.entries.now)) (let so : n ≡ m = omega (arith, is) in so)
      (front (suc n) u).1)

-- ---- one step down
-- what stands first adds nothing
pub skip_step : (f s b h a w : Found) → h ≡ s ++ b → s ≡ [] → f ++ (h ++ a) ≡ w → f ++ (b ++ a) ≡ w
skip_step f s b h a w is none inv =
    ap (λ k. f ++ ((k ++ b) ++ a)) (sym none) ∙ ap (λ k. f ++ (k ++ a)) (sym is) ∙ inv

-- what it names is found, its parts are next, and what stands behind it is left
pub enter_step : (f f2 n i s b h a a2 w : Found) → h ≡ s ++ b → s ≡ n ++ i → f2 ≡ f ++ n → a2 ≡ b ++ a
    → f ++ (h ++ a) ≡ w → f2 ++ (i ++ a2) ≡ w
enter_step f f2 n i s b h a a2 w first inner found left inv =
    ap (λ k. k ++ (i ++ a2)) found ∙ ap (λ k. (f ++ n) ++ (i ++ k)) left ∙ append_assoc f n (i ++ (b ++ a))
    ∙ ap (λ k. f ++ k) (sym (append_assoc n i (b ++ a)) ∙ sym (append_assoc (n ++ i) b a))
    ∙ ap (λ k. f ++ ((k ++ b) ++ a)) (sym inner) ∙ ap (λ k. f ++ (k ++ a)) (sym first) ∙ inv

-- the first part, and those behind it
pub taken_more : (ws : List Way) (last : Way) (v vs : Part)
    → taken ws last (more v vs) ≡ on (first_way ws last) v ++ taken (other_ways ws) last vs
unfolding taken
taken_more ws last v vs = refl

pub taken_nil : (ws : List Way) (last : Way) → taken ws last nil ≡ []
unfolding taken
taken_nil ws last = refl

-- ---- the search for the first that can
-- what is known of what is left of the entries is known of all
abbrev pub Passed : List Entry → List Entry → Type 0
Passed es row = (k m : ℕ) → length es ≡ k + length row → Unnamed m row → Unnamed (k + m) es

pub passed_none : (es : List Entry) → Passed es es
passed_none es = λ k m is u. subst (λ n. Unnamed n es) (let so : m ≡ k + m = omega (arith, is) in so) u

pub passed_more : (es row behind : List Entry) (e : Entry) → row ≡ e ∷ behind → may_name e.what ≡ false
    → length row ≤ length es → Passed es row → Passed es behind
passed_more es row behind e first none le passed = λ k m is u. go k m is u
  where
    size : length row ≡ suc (length behind)
    size = ap length first

    front : (m : ℕ) → Unnamed m behind → Unnamed (suc m) row
    front m u = subst (λ r. Unnamed (suc m) r) (sym first) (none, u)

    go : (k m : ℕ) → length es ≡ k + length behind → Unnamed m behind → Unnamed (k + m) es
    go zero m is u = absurd (let bad : ⊥ = omega (arith, is, size, le) in bad)
    go (suc k) m is u =
        subst (λ n. Unnamed n es) (let so : k + suc m ≡ suc k + m = omega arith in so)
        (passed k (suc m) (omega (arith, is, size)) (front m u))

-- one entry more, which can't
pub searched_more : (es row behind : List Entry) (e : Entry) → row ≡ e ∷ behind → may_name e.what ≡ false
    → any_may_name row ≡ any_may_name es → length row ≤ length es → Passed es row
    → (any_may_name behind ≡ any_may_name es) × (length behind ≤ length es) × Passed es behind
searched_more es row behind e first none same le passed =
    let size : length row ≡ suc (length behind) = ap length first in (
      ap (λ so. so || any_may_name behind) (sym none) ∙ sym (ap any_may_name first) ∙ same,
      omega (arith, size, le),
      passed_more es row behind e first none le passed,
    )

pub passed_here : (es row : List Entry) → length row ≤ length es → Passed es row → Unnamed (length es - length row) es
passed_here es row le passed =
    let n = length es - length row in
    subst (λ k. Unnamed k es) (let so : n + 0 ≡ n = omega arith in so)
    (passed n 0 (let so : length es ≡ n + length row = omega (arith, le) in so) tt)
