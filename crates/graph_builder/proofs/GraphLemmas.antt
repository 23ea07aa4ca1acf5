-- A graph's entries in the order of bytes, and by their numbers.
use Rattle.std.proofs.Common.{◌≡◌, ◌<◌, ℕ, zero, suc, List, [], ◌∷◌, length, map, slice_get, position, refl, sym, ◌∙◌, ap, arith, Option, Some, None}
use Rattle.std.specs.Prelude.{bytes_eq, option_map, option_and_then, IsSome, ◌↔◌}
use Rattle.url.specs.Parts.{Parts}
use Rattle.graph_tables.specs.specifier_table.Numbers.{at_numbers, IsByBytes}
use Rattle.graph_entry.specs.declared.entry.Entry.{Entry}
use Rattle.graph_entry.specs.Specifier.{text_of}
use Rattle.graph_builder.specs.Reach.{Specifier}
use Rattle.graph_builder.specs.ByText.{keys_at, number_of}
use Rattle.graph_builder.specs.Graph.{texts, entry_of, number_in, redirected, on_from, resolved_over, resolved, module_of, module_at, IsAscending}
use Rattle.graph_builder.specs.Final.{redirect_of, most_redirects}
use Rattle.graph_builder.proofs.NumberLemmas.{absent, present}

-- in the order of bytes they ascend, and each specifier has the same entry
pub ascending_numbered : (entries : List (Parts × Entry)) (order : List ℕ) → IsByBytes entries order
    → IsAscending (at_numbers entries order)
unfolding text_of
ascending_numbered entries order b = b.ascending

pub entry_numbered : (entries : List (Parts × Entry)) (order : List ℕ) → IsByBytes entries order → (t : Specifier)
    → entry_of (at_numbers entries order) t ≡ entry_of entries t
unfolding text_of
entry_numbered entries order b t = b.same t

-- entries that are the same lead to the same places
redirected_same : (a b : List (Parts × Entry)) → ((t : Specifier) → entry_of a t ≡ entry_of b t) → (s : Specifier)
    → redirected a s ≡ redirected b s
redirected_same a b h s = ap (option_and_then redirect_of) (h s)

resolved_same : (a b : List (Parts × Entry)) → ((t : Specifier) → entry_of a t ≡ entry_of b t) → (n : ℕ) (s : Specifier)
    → resolved_over a n s ≡ resolved_over b n s
resolved_same a b h zero s = refl
resolved_same a b h (suc n) s =
    ap (on_from s (resolved_over a n)) (redirected_same a b h s) ∙ by (redirected b s) (λ t. resolved_same a b h n t)
  where
    by : (o : Option Specifier) → ((t : Specifier) → resolved_over a n t ≡ resolved_over b n t)
        → on_from s (resolved_over a n) o ≡ on_from s (resolved_over b n) o
    by None more = refl
    by (Some t) more = more t

pub resolved_numbered : (entries : List (Parts × Entry)) (order : List ℕ) → IsByBytes entries order → (s : Specifier)
    → resolved (at_numbers entries order) s ≡ resolved entries s
resolved_numbered entries order b s =
    resolved_same (at_numbers entries order) entries (entry_numbered entries order b) most_redirects s

pub module_numbered : (entries : List (Parts × Entry)) (order : List ℕ) → IsByBytes entries order → (s : Specifier)
    → module_at (at_numbers entries order) s ≡ module_at entries s
module_numbered entries order b s =
    ap (λ (t : Specifier). option_and_then module_of (entry_of (at_numbers entries order) t))
    (resolved_numbered entries order b s)
    ∙ ap (option_and_then module_of) (entry_numbered entries order b (resolved entries s))

-- a specifier that redirects nowhere leads to its own entry
pub module_here : (entries : List (Parts × Entry)) (s : Specifier) (e : Entry) → entry_of entries s ≡ Some e
    → redirect_of e ≡ None → module_at entries s ≡ module_of e
module_here entries s e is none =
    let stays : redirected entries s ≡ None = ap (option_and_then redirect_of) is ∙ none in
    ap (λ (t : Specifier). option_and_then module_of (entry_of entries t))
    (ap (on_from s (resolved_over entries 9)) stays)
    ∙ ap (option_and_then module_of) is

-- one without an entry leads to no module
pub no_module_here : (entries : List (Parts × Entry)) (s : Specifier) → entry_of entries s ≡ None
    → module_at entries s ≡ None
no_module_here entries s is =
    let stays : redirected entries s ≡ None = ap (option_and_then redirect_of) is in
    ap (λ (t : Specifier). option_and_then module_of (entry_of entries t))
    (ap (on_from s (resolved_over entries 9)) stays)
    ∙ ap (option_and_then module_of) is

-- ---- numbers

texts_numbered : (entries : List (Parts × Entry)) → keys_at entries ≡ texts (map (λ (e : Parts × Entry). e.0) entries)
texts_numbered [] = refl
texts_numbered (e ∷ es) = ap (λ ts. text_of e.0 ∷ ts) (texts_numbered es)

pub number_numbered : (entries : List (Parts × Entry)) (s : Specifier)
    → number_of entries s ≡ number_in (map (λ (e : Parts × Entry). e.0) entries) s
number_numbered entries s = ap (position (bytes_eq s)) (texts_numbered entries)

-- a specifier has no number exactly where it has no entry
pub number_none : (entries : List (Parts × Entry)) (order : List ℕ) → IsByBytes entries order → (s : Specifier)
    (o : Option ℕ) → o ≡ number_of entries s → (o ≡ None) ↔ (entry_of (at_numbers entries order) s ≡ None)
number_none entries order b s o is = (
  λ h. entry_numbered entries order b s ∙ absent entries s (sym is ∙ h),
  λ h. by o is (sym (entry_numbered entries order b s) ∙ h),
)
  where
    by : (o : Option ℕ) → o ≡ number_of entries s → entry_of entries s ≡ None → o ≡ None
    by None e h = refl
    by (Some n) e h = absurd (present entries s n (sym e) h)

pub key_numbered : (entries : List (Parts × Entry)) (n : ℕ)
    → option_map (λ (e : Parts × Entry). e.0) (slice_get entries n)
    ≡ slice_get (map (λ (e : Parts × Entry). e.0) entries) n
key_numbered [] n = refl
key_numbered (e ∷ es) zero = refl
key_numbered (e ∷ es) (suc n) = key_numbered es n

pub some_within : {A : Type 0} (xs : List A) (n : ℕ) → n < length xs → IsSome (slice_get xs n)
some_within [] n h = absurd (omega arith)
some_within (x ∷ xs) zero h = refl
some_within (x ∷ xs) (suc n) h = some_within xs n (omega arith)

pub within_some : {A : Type 0} (xs : List A) (n : ℕ) → IsSome (slice_get xs n) → n < length xs
within_some [] n h = absurd cc
within_some (x ∷ xs) zero h = omega arith
within_some (x ∷ xs) (suc n) h = omega (arith, within_some xs n h)

-- the next one has an entry
pub none_first : (all : List (Parts × Entry)) (rest later : List ℕ) (n : ℕ)
    → ((i n : ℕ) → slice_get rest i ≡ Some n → n < length all) → rest ≡ n ∷ later
    → option_map (λ (e : Parts × Entry). e.0) (slice_get all n) ≡ None → ⊥
none_first all rest later n within is none =
    by (slice_get all n) (some_within all n (within 0 n (ap (λ (l : List ℕ). slice_get l 0) is))) none
  where
    by : (o : Option (Parts × Entry)) → IsSome o → option_map (λ (e : Parts × Entry). e.0) o ≡ None → ⊥
    by None h g = cc
    by (Some x) h g = cc

pub within_later : (all : List (Parts × Entry)) (rest later : List ℕ) (n : ℕ)
    → ((i n : ℕ) → slice_get rest i ≡ Some n → n < length all) → rest ≡ n ∷ later
    → (i m : ℕ) → slice_get later i ≡ Some m → m < length all
within_later all rest later n within is i m at =
    within (suc i) m (ap (λ (l : List ℕ). slice_get l (suc i)) is ∙ at)
