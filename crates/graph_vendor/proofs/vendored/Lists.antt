-- What lookups find, and what lists of specifiers have.
use Rattle.std.proofs.Common.{◌≡◌, ◌∙◌, ◌⊎◌, refl, sym, ap, subst, Bool, true, false, cond, List, [], ◌∷◌, Option, Some, None, inl, inr}
use Rattle.std.specs.Prelude.{bytes_eq, ◌||◌, ◌&&◌}
use Rattle.std.specs.List.{AllByRecursion, cons_option, filter_map}
use Rattle.std.specs.Cmp.Lexicographic.{nat_list_eq_equiv, same_text}
use Rattle.std.proofs.lemmas.Option.{none-some, same_Some}
use Rattle.url.specs.Parts.{Parts}
use Rattle.graph_entry.specs.Specifier.{text_of}
use Rattle.graph_builder.specs.Reach.{Specifier, has}
use Rattle.graph_builder.specs.ByText.{value_at, keys_at}
use Rattle.graph_builder.specs.Graph.{texts}

pub text_is : (s t : Specifier) → bytes_eq s t ≡ true → s ≡ t
text_is s t e = same_text s t (sym e)

pub is_text : (s t : Specifier) → s ≡ t → bytes_eq s t ≡ true
is_text s t e = subst (λ (u : Specifier). bytes_eq s u ≡ true) e (nat_list_eq_equiv.refl s)

pub either : (b : Bool) → (b ≡ true) ⊎ (b ≡ false)
either true = inl refl
either false = inr refl

pub both : (a b : Bool) → (a && b) ≡ true → (a ≡ true) × (b ≡ true)
both true b h = (refl, h)
both false b h = absurd (let bad : ⊥ = cc in bad)

pub one_of : (a b : Bool) → (a || b) ≡ true → (a ≡ true) ⊎ (b ≡ true)
one_of true b h = inl refl
one_of false b h = inr h

pub or_later : (a b : Bool) → b ≡ true → (a || b) ≡ true
or_later true b h = refl
or_later false b h = h

-- ---- lookups

-- what holds of each entry holds of the one that is found
pub found : {V : Type 0} (Q : Parts × V → Type 0) (es : List (Parts × V)) (s : Specifier) (v : V)
    → AllByRecursion Q es → value_at es s ≡ Some v → (url : Parts) × (s ≡ text_of url) × Q (url, v)
found {V} Q [] s v all e = absurd (none-some v e)
found {V} Q (x ∷ es) s v all e = by (bytes_eq s (text_of x.0)) refl (found Q es s v all.1) e
  where
    by : (b : Bool) → bytes_eq s (text_of x.0) ≡ b
        → (value_at es s ≡ Some v → (url : Parts) × (s ≡ text_of url) × Q (url, v))
        → cond b (Some x.1) (value_at es s) ≡ Some v → (url : Parts) × (s ≡ text_of url) × Q (url, v)
    by true same later h = (x.0, text_is s (text_of x.0) same, subst (λ (w : V). Q (x.0, w)) (same_Some x.1 v h) all.0)
    by false other later h = later h

-- what holds of each key holds of the one that is found
pub found_key : {V : Type 0} (P : Specifier → Type 0) (es : List (Parts × V)) (s : Specifier) (v : V)
    → AllByRecursion P (keys_at es) → value_at es s ≡ Some v → P s
found_key {V} P [] s v all e = absurd (none-some v e)
found_key {V} P (x ∷ es) s v all e = by (bytes_eq s (text_of x.0)) refl (found_key P es s v all.1) e
  where
    by : (b : Bool) → bytes_eq s (text_of x.0) ≡ b → (value_at es s ≡ Some v → P s)
        → cond b (Some x.1) (value_at es s) ≡ Some v → P s
    by true same later h = subst P (sym (text_is s (text_of x.0) same)) all.0
    by false other later h = later h

-- the first one's value
pub at_first : {V : Type 0} (x : Parts × V) (es : List (Parts × V)) (s : Specifier) → bytes_eq s (text_of x.0) ≡ true
    → value_at (x ∷ es) s ≡ Some x.1
at_first {V} x es s same = ap (λ (b : Bool). cond b (Some x.1) (value_at es s)) same

-- a later one's
pub at_later : {V : Type 0} (x : Parts × V) (es : List (Parts × V)) (s : Specifier) → bytes_eq s (text_of x.0) ≡ false
    → value_at (x ∷ es) s ≡ value_at es s
at_later {V} x es s other = ap (λ (b : Bool). cond b (Some x.1) (value_at es s)) other

-- a key that is none of the later ones isn't found behind
pub apart_key : {V : Type 0} (k s : Specifier) (es : List (Parts × V)) (v : V)
    → AllByRecursion (λ y. bytes_eq k y ≡ false) (keys_at es) → value_at es s ≡ Some v → bytes_eq s k ≡ false
apart_key {V} k s es v all e =
    let other : bytes_eq k s ≡ false = found_key (λ y. bytes_eq k y ≡ false) es s v all e in
    sym (nat_list_eq_equiv.symm k s) ∙ other

-- ---- what a list has

pub has_mapped : {X : Type 0} (f : X → Option Specifier) (xs : List X) (t : Specifier) → has (filter_map f xs) t ≡ true
    → (P : X → Type 0) → AllByRecursion P xs → (x : X) × P x × (f x ≡ Some t)
has_mapped {X} f [] t h P all = absurd (let bad : ⊥ = cc in bad)
has_mapped {X} f (x ∷ xs) t h P all = by (f x) refl (λ k. has_mapped f xs t k P all.1) h
  where
    by : (o : Option Specifier) → f x ≡ o → (has (filter_map f xs) t ≡ true → (y : X) × P y × (f y ≡ Some t))
        → has (cons_option o (filter_map f xs)) t ≡ true → (y : X) × P y × (f y ≡ Some t)
    by None e later k = later k
    by (Some u) e later k =
        elim (one_of (bytes_eq t u) (has (filter_map f xs) t) k) [
          | inl same ↦ (x, all.0, e ∙ ap Some (sym (text_is t u same)))
          | inr there ↦ later there
        ]

-- a list has each of its members
pub has_each : (urls : List Parts) → AllByRecursion (λ url. has (texts urls) (text_of url) ≡ true) urls
has_each urls = grow urls urls (λ s h. h)
  where
    grow : (rest all : List Parts) → ((s : Specifier) → has (texts rest) s ≡ true → has (texts all) s ≡ true)
        → AllByRecursion (λ url. has (texts all) (text_of url) ≡ true) rest
    grow [] all h = tt
    grow (url ∷ rest) all h = (
      h (text_of url) (ap (λ (b : Bool). b || has (texts rest) (text_of url)) (nat_list_eq_equiv.refl (text_of url))),
      grow rest all (λ s k. h s (or_later (bytes_eq s (text_of url)) (has (texts rest) s) k)),
    )

-- what stands for a member stands among what stands for all
pub has_renamed : (f : Specifier → Option Specifier) (urls : List Parts) (s t : Specifier)
    → has (texts urls) s ≡ true → f s ≡ Some t → has (filter_map (λ (url : Parts). f (text_of url)) urls) t ≡ true
has_renamed f [] s t h e = h
has_renamed f (url ∷ urls) s t h e =
    elim (one_of (bytes_eq s (text_of url)) (has (texts urls) s) h) [
      | inl same ↦
          let here : f (text_of url) ≡ Some t = ap f (sym (text_is s (text_of url) same)) ∙ e in
          ap (λ (o : Option Specifier).
          has (cons_option o (filter_map (λ (u : Parts). f (text_of u)) urls)) t) here
          ∙ ap (λ (b : Bool). b || has (filter_map (λ (u : Parts). f (text_of u)) urls) t) (nat_list_eq_equiv.refl t)
      | inr later ↦ behind (f (text_of url)) (has_renamed f urls s t later e)
    ]
  where
    behind : (o : Option Specifier) → has (filter_map (λ (u : Parts). f (text_of u)) urls) t ≡ true
        → has (cons_option o (filter_map (λ (u : Parts). f (text_of u)) urls)) t ≡ true
    behind None k = k
    behind (Some u) k = or_later (bytes_eq t u) (has (filter_map (λ (u : Parts). f (text_of u)) urls) t) k
