-- Lists and edges that are checked.
use Rattle.std.proofs.Common.{zero, suc, ◌≡◌, ℕ, ◌+◌, ◌<◌, Bool, true, false, List, [], ◌∷◌, ◌++◌, length, take, drop, get_or, map, refl, sym, ◌∙◌, ap, subst, Option, Some, None, Result, Ok, Err, IfOk, append_assoc, append-nil, arith}
use Rattle.std.specs.Prelude.{◌||◌, ◌&&◌, bytes_eq, is_some, slice_get, slice_index_or, option_map, option_and_then}
use Rattle.std.specs.List.{AllByRecursion, cons_option}
use Rattle.std.specs.Cmp.Lexicographic.{nat_list_eq_equiv, same_text}
use Rattle.std.proofs.lemmas.List.{map-append, take_more, take-append-drop}
use Rattle.url.specs.Parts.{Parts}
use Rattle.graph_entry.specs.declared.entry.Dependency.{Dependency}
use Rattle.graph_entry.specs.declared.entry.Module.{Module}
use Rattle.graph_entry.specs.declared.entry.Entry.{Entry}
use Rattle.graph_entry.specs.declared.entry.Entry.TheVariants as entry
use Rattle.graph_entry.specs.Specifier.{text_of}
use Rattle.graph_builder.specs.Rules.{Specifier, edges_of}
use Rattle.graph_builder.specs.Reach.{has}
use Rattle.graph_builder.specs.Graph.{texts, entry_of, members_of, module_of, IsAscending}
use Rattle.graph_builder.specs.ByText.{keys_at, number_of, value_at}
use Rattle.graph_builder.proofs.ByTextLemmas.{has-keys_at, distinct_sorted}
use Rattle.graph_builder.proofs.NumberLemmas.{absent, present}
use Rattle.graph_order.specs.Edges.{Entries, IsModule, Edge, IsStaticEdge, static_target}
use Rattle.graph_order.specs.declared.found.CycleEdge.{CycleEdge}
use Rattle.graph_order.specs.Order.{IsFree, EachBehind, IsChain, modules, AreApart, edge_of}
use Rattle.graph_order.specs.Names.{Held, Names, modules_of, LeadsTo, LeadsSo, GoesOn, HoldsEach}
use Rattle.graph_order.proofs.ModuleLemmas.{keys, held_at, held_of, of_module}

-- ---- what has a number

some_module : {A : Type 0} (x y : A) → Some x ≡ Some y → x ≡ y
some_module x y h = cc

pub has_number : (names : Names) (s : Specifier) → has (keys_at names) s ≡ is_some (number_of names s)
has_number names s = has-keys_at names s ∙ by (number_of names s) refl
  where
    some : (o : Option (Unit {0})) → (o ≡ None → ⊥) → is_some o ≡ true
    some None h = absurd (h refl)
    some (Some x) h = refl

    by : (o : Option ℕ) → number_of names s ≡ o → is_some (value_at names s) ≡ is_some o
    by None e = ap is_some (absent names s e)
    by (Some n) e = some (value_at names s) (present names s n e)

-- ---- what holds of each

pub all_get : {A : Type 0} (P : A → Type 0) (xs : List A) (n : ℕ) (x : A) → AllByRecursion P xs
    → slice_get xs n ≡ Some x → P x
all_get P [] n x h at = absurd cc
all_get P (y ∷ ys) zero x h at = subst P (some_module y x at) h.0
all_get P (y ∷ ys) (suc n) x h at = all_get P ys n x h.1 at

pub all_gets : {A : Type 0} (P : A → Type 0) (xs : List A) → ((n : ℕ) (x : A) → slice_get xs n ≡ Some x → P x)
    → AllByRecursion P xs
all_gets P [] h = tt
all_gets P (x ∷ xs) h = (h zero x refl, all_gets P xs (λ n y at. h (suc n) y at))

pub all_push : {A : Type 0} (P : A → Type 0) (xs : List A) (x : A) → AllByRecursion P xs → P x
    → AllByRecursion P (xs ++ x ∷ [])
all_push P [] x h p = (p, tt)
all_push P (y ∷ ys) x h p = (h.0, all_push P ys x h.1 p)

-- ---- free modules

pub free_from : (entries : Entries) (front : List Specifier) (s : Specifier) (m : Module)
    → entry_of entries s ≡ Some (entry.Module m) → has front s ≡ false
    → AllByRecursion (LeadsTo entries front) (edges_of m) → IsFree entries front s
free_from entries front s m there open_yet all = record {
  there = (m, there);
  open_yet = open_yet;
  placed = λ e is from.
      let same : is.holder ≡ m = one is.holder m
      (sym is.there ∙ ap (entry_of entries) from ∙ there) in
      all_get (LeadsTo entries front) (edges_of m) e.place is.edge all
      (subst (λ (k : Module). slice_get (edges_of k) e.place ≡ Some is.edge) same is.at) e.to is.leads;
}
  where
    one : (x y : Module) → Some (entry.Module x) ≡ Some (entry.Module y) → x ≡ y
    one x y h = cc

pub free_leads : (entries : Entries) (front : List Specifier) (s : Specifier) (m : Module)
    → entry_of entries s ≡ Some (entry.Module m) → IsFree entries front s
    → AllByRecursion (LeadsTo entries front) (edges_of m)
free_leads entries front s m there free =
    all_gets (LeadsTo entries front) (edges_of m)
    (λ n d at t leads. free.placed (record { from = s; place = n; to = t })
    (record { holder = m; there = there; edge = d; at = at; leads = leads }) refl)

-- what is no module isn't free
pub free_module : (entries : Entries) (front : List Specifier) (s : Specifier) (o : Option Entry)
    → entry_of entries s ≡ o → IsFree entries front s → (m : Module) × (o ≡ Some (entry.Module m))
free_module entries front s o is free = let (m, there) = free.there in (m, sym is ∙ there)

-- ---- one behind the other

pub each_push : (Stands : List Specifier → Specifier → Type 0) (front list : List Specifier) (s : Specifier)
    → EachBehind Stands front list → Stands (front ++ list) s → EachBehind Stands front (list ++ s ∷ [])
each_push Stands front [] s h stands = (subst (λ (fs : List Specifier). Stands fs s) (append-nil front) stands, tt)
each_push Stands front (x ∷ list) s h stands = (
  h.0,
  each_push Stands (front ++ x ∷ []) list s h.1
      (subst (λ (fs : List Specifier). Stands fs s) (sym (append_assoc front (x ∷ []) list)) stands),
)

pub each_at : (Stands : List Specifier → Specifier → Type 0) (front list : List Specifier) (s : Specifier)
    (rest : List Specifier) → EachBehind Stands front (list ++ s ∷ rest) → Stands (front ++ list) s
each_at Stands front [] s rest h = subst (λ (fs : List Specifier). Stands fs s) (sym (append-nil front)) h.0
each_at Stands front (x ∷ list) s rest h =
    subst (λ (fs : List Specifier). Stands fs s) (append_assoc front (x ∷ []) list)
    (each_at Stands (front ++ x ∷ []) list s rest h.1)

-- ---- chains

pub chain_push : (entries : Entries) (s t : Specifier) (path : List Edge) (e : Edge) → IsChain entries s path t
    → e.from ≡ t → IsStaticEdge entries e → IsChain entries s (path ++ e ∷ []) e.to
chain_push entries s t [] e h from is = (from ∙ sym h, is, refl)
chain_push entries s t (f ∷ path) e h from is = (h.0, h.1, chain_push entries f.to t path e h.2 from is)

-- a chain has one end
pub chain_end : (entries : Entries) (s t u : Specifier) (path : List Edge) → IsChain entries s path t
    → IsChain entries s path u → t ≡ u
chain_end entries s t u [] h k = sym h ∙ k
chain_end entries s t u (e ∷ path) h k = chain_end entries e.to t u path h.2 k.2

-- an edge within one is a static edge, and begins where those before it end
pub chain_at : (entries : Entries) (s t u : Specifier) (path : List Edge) (e : Edge) (rest : List Edge)
    → IsChain entries s (path ++ e ∷ rest) t → IsChain entries s path u → (e.from ≡ u) × IsStaticEdge entries e
chain_at entries s t u [] e rest h k = (h.0 ∙ k, h.1)
chain_at entries s t u (f ∷ path) e rest h k = chain_at entries f.to t u path e rest h.2 k.2

-- it comes round where its end is its beginning
pub chain_round : (entries : Entries) (s t : Specifier) (path : List Edge) (r : Bool) → IsChain entries s path t
    → r ≡ bytes_eq t s → (r ≡ true → IsChain entries s path s) × (IsChain entries s path s → r ≡ true)
chain_round entries s t path r h is = (
  λ yes. subst (IsChain entries s path) (same_text t s (sym (sym is ∙ yes))) h,
  λ round.
      let same : t ≡ s = chain_end entries s t s path h round in
      is ∙ ap (bytes_eq t) (sym same) ∙ nat_list_eq_equiv.refl t,
)

-- ---- specifiers apart

turned : (x y : Specifier) → bytes_eq y x ≡ false → bytes_eq x y ≡ false
turned x y h = by (bytes_eq x y) refl
  where
    by : (b : Bool) → bytes_eq x y ≡ b → b ≡ false
    by false f = refl
    by true f =
        let equal : bytes_eq y x ≡ true = ap (bytes_eq y) (same_text x y (sym f)) ∙ nat_list_eq_equiv.refl y in
        absurd cc

or_parts : (a b : Bool) → (a || b) ≡ false → (a ≡ false) × (b ≡ false)
or_parts false b h = (refl, h)
or_parts true b h = absurd cc

or_both : (a b : Bool) → a ≡ false → b ≡ false → (a || b) ≡ false
or_both false b h k = k
or_both true b h k = absurd cc

or_more : (a b c : Bool) → (a || (b || c)) ≡ ((a || b) || c)
or_more true b c = refl
or_more false b c = refl

has-append : (xs ys : List Specifier) (s : Specifier) → has (xs ++ ys) s ≡ (has xs s || has ys s)
has-append [] ys s = refl
has-append (x ∷ xs) ys s =
    ap (λ b. bytes_eq s x || b) (has-append xs ys s) ∙ or_more (bytes_eq s x) (has xs s) (has ys s)

pub apart_push : (ss : List Specifier) (s : Specifier) → AreApart ss → has ss s ≡ false → AreApart (ss ++ s ∷ [])
apart_push [] s h new = (refl, tt)
apart_push (x ∷ ss) s h new =
    let (apart, rest) = or_parts (bytes_eq s x) (has ss s) new in (
      has-append ss (s ∷ []) x ∙ or_both (has ss x) (bytes_eq x s || false) h.0
          (or_both (bytes_eq x s) false (turned x s apart) refl),
      apart_push ss s h.1 rest,
    )

pub apart_at : (ss : List Specifier) (s : Specifier) (rest : List Specifier) → AreApart (ss ++ s ∷ rest)
    → has ss s ≡ false
apart_at [] s rest h = refl
apart_at (x ∷ ss) s rest h =
    let (front, back) = or_parts (has ss x) (has (s ∷ rest) x) (sym (has-append ss (s ∷ rest) x) ∙ h.0) in
    let (apart, more) = or_parts (bytes_eq x s) (has rest x) back in
    or_both (bytes_eq s x) (has ss s) (turned s x apart) (apart_at ss s rest h.1)

-- ---- names

-- what has no number yet
pub number_none : (names : Names) (s : Specifier) → has (keys_at names) s ≡ false → number_of names s ≡ None
number_none names s h = by (number_of names s) (sym (has_number names s) ∙ h)
  where
    by : (o : Option ℕ) → is_some o ≡ false → o ≡ None
    by None h = refl
    by (Some n) h = absurd cc

pub none_number : (names : Names) (s : Specifier) → number_of names s ≡ None → has (keys_at names) s ≡ false
none_number names s h = has_number names s ∙ ap is_some h

-- ---- edges that lead to some

pub leads_some : (entries : Entries) (placed : Names) (d : Dependency) (s : Specifier) (r : Bool)
    → static_target entries d ≡ Some s → r ≡ is_some (number_of placed s)
    → (r ≡ true → LeadsTo entries (keys_at placed) d) × (LeadsTo entries (keys_at placed) d → r ≡ true)
leads_some entries placed d s r leads is = (
  λ yes t to.
      let same : s ≡ t = some_module s t (sym leads ∙ to) in
      ap (has (keys_at placed)) (sym same) ∙ has_number placed s ∙ sym is ∙ yes,
  λ all. is ∙ sym (has_number placed s) ∙ all s leads,
)

pub leads_none : (entries : Entries) (placed : List Specifier) (d : Dependency) → static_target entries d ≡ None
    → LeadsTo entries placed d
leads_none entries placed d none t to = absurd (let both : None ≡ Some t = sym none ∙ to in cc)

-- whether an edge leads there
pub leads_there : (entries : Entries) (d : Dependency) (s t : Specifier) (r : Bool) → static_target entries d ≡ Some s
    → r ≡ bytes_eq s t → (r ≡ true → static_target entries d ≡ Some t) × (static_target entries d ≡ Some t → r ≡ true)
leads_there entries d s t r leads is = (
  λ yes. leads ∙ ap Some (same_text s t (sym (sym is ∙ yes))),
  λ to.
      let same : s ≡ t = some_module s t (sym leads ∙ to) in
      is ∙ ap (bytes_eq s) (sym same) ∙ nat_list_eq_equiv.refl s,
)

-- an edge of a module that leads so
pub leads_so : (entries : Entries) (edges : List Dependency) (e : Edge) (d : Dependency) (r : Bool)
    → slice_get edges e.place ≡ Some d
    → (r ≡ true → static_target entries d ≡ Some e.to) × (static_target entries d ≡ Some e.to → r ≡ true)
    → (r ≡ true → LeadsSo entries edges e) × (LeadsSo entries edges e → r ≡ true)
leads_so entries edges e d r at there = (
  λ yes. record { edge = d; at = at; leads = there.0 yes },
  λ so.
      let same : so.edge ≡ d = some_module so.edge d (sym so.at ∙ at) in
      there.1 (ap (static_target entries) (sym same) ∙ so.leads),
)

pub leads_not : (entries : Entries) (edges : List Dependency) (e : Edge) → slice_get edges e.place ≡ None
    → LeadsSo entries edges e → ⊥
leads_not entries edges e none so = let both : None ≡ Some so.edge = sym none ∙ so.at in cc

-- ---- modules of entries

pub module_found : (o : Option Entry) (m : Module) → option_and_then module_of o ≡ Some m → o ≡ Some (entry.Module m)
module_found None m h = absurd cc
module_found (Some e) m h = ap Some (of_module e m h)

pub module_none : (o : Option Entry) → option_and_then module_of o ≡ None → (m : Module) → o ≡ Some (entry.Module m) → ⊥
module_none o none m is = let both : None ≡ Some m = sym none ∙ ap (option_and_then module_of) is in cc

-- a static edge is one that leads so among its module's
pub static_by : (entries : Entries) (e : Edge) (m : Module) (r : Bool) → entry_of entries e.from ≡ Some (entry.Module m)
    → (r ≡ true → LeadsSo entries (edges_of m) e) × (LeadsSo entries (edges_of m) e → r ≡ true)
    → (r ≡ true → IsStaticEdge entries e) × (IsStaticEdge entries e → r ≡ true)
static_by entries e m r there so = (
  λ yes.
      let leads = so.0 yes in
      record { holder = m; there = there; edge = leads.edge; at = leads.at; leads = leads.leads },
  λ is.
      let same : is.holder ≡ m = one is.holder m (sym is.there ∙ there) in
      so.1 (record {
        edge = is.edge;
        at = subst (λ (k : Module). slice_get (edges_of k) e.place ≡ Some is.edge) same is.at;
        leads = is.leads;
      }),
)
  where
    one : (x y : Module) → Some (entry.Module x) ≡ Some (entry.Module y) → x ≡ y
    one x y h = cc

-- whether an edge goes on from a specifier
pub goes_on : (entries : Entries) (s : Specifier) (e : Edge) (a b : Bool) → a ≡ bytes_eq e.from s
    → (b ≡ true → IsStaticEdge entries e) × (IsStaticEdge entries e → b ≡ true)
    → ((a && b) ≡ true → GoesOn entries s e) × (GoesOn entries s e → (a && b) ≡ true)
goes_on entries s e true b is so = (
  λ yes. (same_text e.from s is, so.0 yes),
  λ goes. so.1 goes.1,
)
goes_on entries s e false b is so = (
  λ yes. absurd cc,
  λ goes. absurd
      (let equal : bytes_eq e.from s ≡ true = ap (bytes_eq e.from) (sym goes.0) ∙ nat_list_eq_equiv.refl e.from in cc),
)

-- ---- one more

pub take_next : {A : Type 0} (xs : List A) (i : ℕ) (x : A) → i < length xs → x ≡ get_or xs i x
    → take (i + 1) xs ≡ take i xs ++ x ∷ []
take_next xs i x within is = take_more xs i x within ∙ ap (λ y. take i xs ++ y ∷ []) (sym is)

pub split_at : {A : Type 0} (xs : List A) (i : ℕ) (x : A) → i < length xs → x ≡ get_or xs i x
    → xs ≡ take i xs ++ x ∷ drop (i + 1) xs
split_at xs i x within is =
    sym (take-append-drop (i + 1) xs) ∙ ap (λ ys. ys ++ drop (i + 1) xs) (take_next xs i x within is)
    ∙ append_assoc (take i xs) (x ∷ []) (drop (i + 1) xs)

pub all_more : {A : Type 0} (P : A → Type 0) (xs : List A) (i : ℕ) (x : A) → i < length xs → x ≡ get_or xs i x
    → AllByRecursion P (take i xs) → P x → AllByRecursion P (take (i + 1) xs)
all_more P xs i x within is h p =
    subst (AllByRecursion P) (sym (take_next xs i x within is)) (all_push P (take i xs) x h p)

pub texts_next : (urls : List Parts) (i : ℕ) (url : Parts) → i < length urls → url ≡ get_or urls i url
    → texts (take (i + 1) urls) ≡ texts (take i urls) ++ text_of url ∷ []
texts_next urls i url within is =
    ap texts (take_next urls i url within is) ∙ map-append text_of (take i urls) (url ∷ [])

pub texts_split : (urls : List Parts) (i : ℕ) (url : Parts) → i < length urls → url ≡ get_or urls i url
    → texts urls ≡ texts (take i urls) ++ text_of url ∷ texts (drop (i + 1) urls)
texts_split urls i url within is =
    ap texts (split_at urls i url within is) ∙ map-append text_of (take i urls) (url ∷ drop (i + 1) urls)

pub edges_next : (edges : List CycleEdge) (i : ℕ) (e : CycleEdge) → i < length edges → e ≡ get_or edges i e
    → map edge_of (take (i + 1) edges) ≡ map edge_of (take i edges) ++ edge_of e ∷ []
edges_next edges i e within is =
    ap (map edge_of) (take_next edges i e within is) ∙ map-append edge_of (take i edges) (e ∷ [])

pub edges_split : (edges : List CycleEdge) (i : ℕ) (e : CycleEdge) → i < length edges → e ≡ get_or edges i e
    → map edge_of edges ≡ map edge_of (take i edges) ++ edge_of e ∷ map edge_of (drop (i + 1) edges)
edges_split edges i e within is =
    ap (map edge_of) (split_at edges i e within is) ∙ map-append edge_of (take i edges) (e ∷ drop (i + 1) edges)

pub modules-append : (xs ys : List Edge) → modules (xs ++ ys) ≡ modules xs ++ modules ys
modules-append xs ys = map-append (λ (e : Edge). e.from) xs ys

pub keys_next : (old new : Names) (u : Parts) → new ≡ old ++ (u, tt) ∷ [] → keys_at new ≡ keys_at old ++ text_of u ∷ []
keys_next old new u is = ap keys_at is ∙ map-append (λ (x : Parts × Unit {0}). text_of x.0) old ((u, tt) ∷ [])

-- ---- modules among the entries that are left

pub holds_head : (placed : List Specifier) (left rest : Entries) (u : Parts) (e : Entry) (m : Module)
    → HoldsEach placed left → left ≡ (u, e) ∷ rest → e ≡ entry.Module m → has placed (text_of u) ≡ true
holds_head placed left rest u e m all next is =
    let here : HoldsEach placed ((u, entry.Module m) ∷ rest)
    = subst (λ (x : Entry). HoldsEach placed ((u, x) ∷ rest)) is (subst (HoldsEach placed) next all) in here.0

pub holds_tail : (placed : List Specifier) (left rest : Entries) (u : Parts) (e : Entry) → HoldsEach placed left
    → left ≡ (u, e) ∷ rest → HoldsEach placed rest
holds_tail placed left rest u e all next = by (module_of e) (subst (HoldsEach placed) next all)
  where
    by : (o : Option Module)
        → AllByRecursion (λ (h : Held). has placed (text_of h.0) ≡ true)
        (cons_option (option_map (λ (m : Module). (u, m)) o) (modules_of rest)) → HoldsEach placed rest
    by None h = h
    by (Some m) h = h.1

pub holds_cons : (placed : List Specifier) (left rest : Entries) (u : Parts) (e : Entry) → HoldsEach placed rest
    → has placed (text_of u) ≡ true → left ≡ (u, e) ∷ rest → HoldsEach placed left
holds_cons placed left rest u e all here next = subst (HoldsEach placed) (sym next) (by (module_of e))
  where
    by : (o : Option Module)
        → AllByRecursion (λ (h : Held). has placed (text_of h.0) ≡ true)
        (cons_option (option_map (λ (m : Module). (u, m)) o) (modules_of rest))
    by None = all
    by (Some m) = (here, all)

-- ---- all modules

pub holds_all : (entries : Entries) → IsAscending entries → (placed : List Specifier) → HoldsEach placed entries
    → (s : Specifier) → IsModule entries s → has placed s ≡ true
holds_all entries ascending placed all s (m, there) =
    let (v, held) = held_of entries s m there in
    ap (has placed) (sym held.1) ∙ at (modules_of entries) v all held.0
  where
    at : (ms : List Held) (v : ℕ) → AllByRecursion (λ (h : Held). has placed (text_of h.0) ≡ true) ms → v < length ms
        → has placed (slice_index_or (keys ms) v []) ≡ true
    at [] v h l = absurd (omega arith)
    at (h ∷ ms) zero all l = all.0
    at (h ∷ ms) (suc v) all l = at ms v all.1 (omega (arith, l))

pub all_holds : (entries : Entries) → IsAscending entries → (placed : List Specifier)
    → ((s : Specifier) → IsModule entries s → has placed s ≡ true) → HoldsEach placed entries
all_holds entries ascending placed all =
    from (modules_of entries) (λ v l.
    let (m, h) = held_at entries v (distinct_sorted (members_of entries) ascending) l in
    all (slice_index_or (keys (modules_of entries)) v []) (m, h.there))
  where
    from : (ms : List Held) → ((v : ℕ) → v < length ms → has placed (slice_index_or (keys ms) v []) ≡ true)
        → AllByRecursion (λ (h : Held). has placed (text_of h.0) ≡ true) ms
    from [] h = tt
    from (m ∷ ms) h = (h zero (omega arith), from ms (λ v l. h (suc v) (omega (arith, l))))

-- what holds of an `Ok` may be weakened
pub IfOk-map : {T E : Type 0} (r : Result T E) (P Q : T → Type 0) → ((x : T) → P x → Q x) → IfOk r P → IfOk r Q
IfOk-map (Ok x) P Q f p = f x p
IfOk-map (Err e) P Q f p = tt
