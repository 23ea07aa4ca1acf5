-- The modules among a graph's entries, and their numbers.
use Rattle.std.proofs.Common.{zero, suc, ◌≡◌, ◌≤◌, ◌<◌, ◌+◌, ◌⊎◌, inl, inr, ℕ, Bool, true, false, cond, List, [], ◌∷◌, length, map, refl, sym, ◌∙◌, ap, subst, arith, Option, Some, None}
use Rattle.std.specs.Prelude.{bytes_eq, slice_index_or, option_map, position}
use Rattle.std.specs.List.{cons_option, AllByRecursion, IsDistinct, position_from}
use Rattle.std.specs.List.Sorted.{IsStrictlySortedBy}
use Rattle.std.specs.Ordering.{nat_cmp, is_eq, is_le}
use Rattle.std.specs.declared.cmp.Ordering.{Ordering}
use Rattle.std.specs.declared.cmp.Ordering.TheVariants.{Less, Equal, Greater}
use Rattle.std.specs.Cmp.Lexicographic.{slice_cmp, nat_list_eq_equiv, same_text}
use Rattle.std.proofs.lemmas.Map.Keys.{IsDistinct-tail, Less-from_sorted, apart_from_distinct}
use Rattle.std.proofs.lemmas.Map.Text.{is_eq-slice_cmp}
use Rattle.std.proofs.lemmas.Iterator.Adapters.{position_from-zero}
use Rattle.url.specs.Parts.{Parts}
use Rattle.graph_entry.specs.declared.entry.Module.{Module}
use Rattle.graph_entry.specs.declared.entry.Entry.{Entry}
use Rattle.graph_entry.specs.declared.entry.Entry.TheVariants as entry
use Rattle.graph_entry.specs.Specifier.{text_of}
use Rattle.graph_builder.specs.Rules.{Specifier, edges_of}
use Rattle.graph_builder.specs.Graph.{entry_of, members_of, module_of, IsAscending}
use Rattle.graph_builder.specs.ByText.{keys_at}
use Rattle.graph_order.specs.Edges.{Entries}
use Rattle.graph_order.specs.Names.{Held, held, bare, modules_of}

-- ---- the modules' specifiers

abbrev pub keys : List Held → List Specifier
keys ms = map (λ m. text_of m.0) ms

pub keys-named : (ms : List Held) → keys_at (map bare ms) ≡ keys ms
keys-named [] = refl
keys-named (m ∷ ms) = ap (λ (ts : List Specifier). text_of m.0 ∷ ts) (keys-named ms)

-- what holds of all specifiers holds of the modules'
all_kept : (P : Specifier → Type 0) (entries : Entries) → AllByRecursion P (members_of entries)
    → AllByRecursion P (keys (modules_of entries))
all_kept P [] h = tt
all_kept P (e ∷ es) h = by (all_kept P es h.1) (module_of e.1)
  where
    by : AllByRecursion P (keys (modules_of es)) → (o : Option Module)
        → AllByRecursion P (keys (cons_option (option_map (λ (m : Module). (e.0, m)) o) (modules_of es)))
    by rest None = rest
    by rest (Some m) = (h.0, rest)

-- they are in the order of their bytes too
pub keys_ascend : (entries : Entries) → IsAscending entries
    → IsStrictlySortedBy (slice_cmp nat_cmp) (keys (modules_of entries))
unfolding IsStrictlySortedBy
keys_ascend [] h = tt
keys_ascend (e ∷ es) h = by (keys_ascend es h.1) (module_of e.1)
  where
    by : IsStrictlySortedBy (slice_cmp nat_cmp) (keys (modules_of es)) → (o : Option Module)
        → IsStrictlySortedBy (slice_cmp nat_cmp)
        (keys (cons_option (option_map (λ (m : Module). (e.0, m)) o) (modules_of es)))
    by rest None = rest
    by rest (Some m) = (all_kept (λ t. slice_cmp nat_cmp (text_of e.0) t ≡ Less) es h.0, rest)

-- ---- one module for each number

-- the module at a specifier, with the dependencies that stand at its number
pub record IsHeld (entries : Entries) (ms : List Held) (v : ℕ) (s : Specifier) (m : Module) : Type 0 where
  pub within : v < length ms
  pub name : slice_index_or (keys ms) v [] ≡ s
  pub edges : slice_index_or (map (λ (k : Held). edges_of k.1) ms) v [] ≡ edges_of m
  pub there : entry_of entries s ≡ Some (entry.Module m)

-- an entry with a module is that module's
pub of_module : (e : Entry) (m : Module) → module_of e ≡ Some m → e ≡ entry.Module m
of_module (entry.Redirect target) m h = absurd cc
of_module (entry.Module k) m h = ap entry.Module (one k m h)
  where
    one : (x y : Module) → Some x ≡ Some y → x ≡ y
    one x y g = cc
of_module (entry.Package held) m h = absurd cc
of_module entry.External m h = absurd cc
of_module (entry.Error e) m h = absurd cc

-- a specifier that is apart from all has no entry
apart_none : (x : Specifier) (entries : Entries) → AllByRecursion (λ t. bytes_eq x t ≡ false) (members_of entries)
    → entry_of entries x ≡ None
apart_none x [] h = refl
apart_none x (e ∷ es) h = rw (h.0, apart_none x es h.1) refl

-- what has an entry further on isn't the first
later : (e : Parts × Entry) (es : Entries) (s : Specifier) (found : Entry)
    → AllByRecursion (λ t. bytes_eq (text_of e.0) t ≡ false) (members_of es) → entry_of es s ≡ Some found
    → entry_of (e ∷ es) s ≡ Some found
later e es s found apart h = by (bytes_eq s (text_of e.0)) refl
  where
    by : (b : Bool) → bytes_eq s (text_of e.0) ≡ b → cond b (Some e.1) (entry_of es s) ≡ Some found
    by false f = h
    by true f =
        let none : entry_of es s ≡ None
        = ap (entry_of es) (same_text s (text_of e.0) (sym f)) ∙ apart_none (text_of e.0) es apart in
        absurd cc

-- each number's
pub held_at : (entries : Entries) (v : ℕ) → IsDistinct bytes_eq (members_of entries)
    → v < length (modules_of entries)
    → (m : Module) × IsHeld entries (modules_of entries) v (slice_index_or (keys (modules_of entries)) v []) m
unfolding IsDistinct
held_at [] v once l = absurd (omega arith)
held_at (e ∷ es) v once l = by (λ v. held_at es v once.1) (module_of e.1) refl v l
  where
    on : (v : ℕ) (m : Module) → IsHeld es (modules_of es) v (slice_index_or (keys (modules_of es)) v []) m
        → entry_of (e ∷ es) (slice_index_or (keys (modules_of es)) v []) ≡ Some (entry.Module m)
    on v m h = later e es (slice_index_or (keys (modules_of es)) v []) (entry.Module m) once.0 h.there

    by : ((v : ℕ) → v < length (modules_of es)
        → (m : Module) × IsHeld es (modules_of es) v (slice_index_or (keys (modules_of es)) v []) m)
        → (o : Option Module) → module_of e.1 ≡ o → (v : ℕ)
        → v < length (cons_option (option_map (λ (m : Module). (e.0, m)) o) (modules_of es))
        → (m : Module) × IsHeld (e ∷ es) (cons_option (option_map (λ (m : Module). (e.0, m)) o) (modules_of es)) v
        (slice_index_or (keys (cons_option (option_map (λ (m : Module). (e.0, m)) o) (modules_of es))) v []) m
    by rest None is v l =
        let (m, h) = rest v l in (m, record { within = l; name = refl; edges = h.edges; there = on v m h })
    by rest (Some m) is zero l = (
      m,
      record {
        within = l;
        name = refl;
        edges = refl;
        there = rw (nat_list_eq_equiv.refl (text_of e.0)) (ap Some (of_module e.1 m is));
      },
    )
    by rest (Some k) is (suc v) l =
        let (m, h) = rest v (omega (arith, l)) in
        (m, record { within = l; name = refl; edges = h.edges; there = on v m h })

-- and a number for each
abbrev pub IsHeldAt : List Held → Specifier → Module → ℕ → Type 0
IsHeldAt ms s m v =
    (v < length ms) × (slice_index_or (keys ms) v [] ≡ s)
    × (slice_index_or (map (λ (k : Held). edges_of k.1) ms) v [] ≡ edges_of m)

pub held_of : (entries : Entries) (s : Specifier) (m : Module) → entry_of entries s ≡ Some (entry.Module m)
    → (v : ℕ) × IsHeldAt (modules_of entries) s m v
held_of [] s m h = absurd cc
held_of (e ∷ es) s m h = by (held_of es s m) (bytes_eq s (text_of e.0)) refl (module_of e.1) refl h
  where
    one : (x y : Entry) → Some x ≡ Some y → x ≡ y
    one x y g = cc

    one_module : (x y : Module) → Some x ≡ Some y → x ≡ y
    one_module x y g = cc

    by : (entry_of es s ≡ Some (entry.Module m) → (v : ℕ) × IsHeldAt (modules_of es) s m v)
        → (b : Bool) → bytes_eq s (text_of e.0) ≡ b → (o : Option Module) → module_of e.1 ≡ o
        → cond b (Some e.1) (entry_of es s) ≡ Some (entry.Module m)
        → (v : ℕ) × IsHeldAt (cons_option (option_map (λ (k : Module). (e.0, k)) o) (modules_of es)) s m v
    by rest true f None is g = absurd
        (let has : None ≡ Some m = sym is ∙ ap module_of (one e.1 (entry.Module m) g) in cc)
    by rest true f (Some k) is g =
        let this : Some k ≡ Some m = sym is ∙ ap module_of (one e.1 (entry.Module m) g) in
        (zero, (omega arith, sym (same_text s (text_of e.0) (sym f)), ap edges_of (one_module k m this)))
    by rest false f None is g = rest g
    by rest false f (Some k) is g =
        let (v, held) = rest g in (suc v, (omega (arith, held.0), held.1, held.2))

-- ---- numbers and specifiers

-- one specifier has one number
pub one_key : (ks : List Specifier) (u v : ℕ) → IsDistinct bytes_eq ks → u < length ks → v < length ks
    → slice_index_or ks u [] ≡ slice_index_or ks v [] → u ≡ v
one_key ks u v once k l same = by (order u v)
  where
    order : (a b : ℕ) → (a ≡ b) ⊎ ((a < b) ⊎ (b < a))
    order a b = search arith

    never : (i j : ℕ) → i < j → j < length ks → slice_index_or ks i [] ≡ slice_index_or ks j [] → ⊥
    never i j lt l e =
        let apart = apart_from_distinct bytes_eq ks i j [] once lt l in
        let yes : bytes_eq (slice_index_or ks i []) (slice_index_or ks j []) ≡ true
        = ap (bytes_eq (slice_index_or ks i [])) (sym e) ∙ nat_list_eq_equiv.refl (slice_index_or ks i []) in cc

    by : (u ≡ v) ⊎ ((u < v) ⊎ (v < u)) → u ≡ v
    by (inl e) = e
    by (inr (inl lt)) = absurd (never u v lt l same)
    by (inr (inr lt)) = absurd (never v u lt k (sym same))

-- a lesser number is a lesser specifier
pub key_rises : (ks : List Specifier) (u v : ℕ) → IsStrictlySortedBy (slice_cmp nat_cmp) ks → u ≤ v → v < length ks
    → is_le (slice_cmp nat_cmp (slice_index_or ks u []) (slice_index_or ks v [])) ≡ true
key_rises ks u v sorted le l = by (order u v le)
  where
    order : (a b : ℕ) → a ≤ b → (a ≡ b) ⊎ (a < b)
    order a b h = search (arith, h)

    level : (o : Ordering) → is_eq o ≡ true → is_le o ≡ true
    level Less h = refl
    level Equal h = refl
    level Greater h = absurd cc

    itself : (t : Specifier) → is_le (slice_cmp nat_cmp t t) ≡ true
    itself t = level (slice_cmp nat_cmp t t) (is_eq-slice_cmp t t ∙ nat_list_eq_equiv.refl t)

    by : (u ≡ v) ⊎ (u < v) → is_le (slice_cmp nat_cmp (slice_index_or ks u []) (slice_index_or ks v [])) ≡ true
    by (inl e) =
        subst (λ (w : ℕ). is_le (slice_cmp nat_cmp (slice_index_or ks u []) (slice_index_or ks w [])) ≡ true) e
        (itself (slice_index_or ks u []))
    by (inr lt) = ap is_le (Less-from_sorted (slice_cmp nat_cmp) ks u v [] sorted lt l)

-- the place of what stands somewhere
pub position_of : (ks : List Specifier) (v : ℕ) → IsDistinct bytes_eq ks → v < length ks
    → position (bytes_eq (slice_index_or ks v [])) ks ≡ Some v
position_of ks v once l =
    position_from-zero (bytes_eq (slice_index_or ks v [])) ks ∙ from ks 0 v once l ∙ ap Some (omega arith)
  where
    back : (x y : Specifier) → bytes_eq y x ≡ false → bytes_eq x y ≡ false
    back x y h = by (bytes_eq x y) refl
      where
        by : (b : Bool) → bytes_eq x y ≡ b → b ≡ false
        by false f = refl
        by true f =
            let yes : bytes_eq y x ≡ true = ap (bytes_eq y) (same_text x y (sym f)) ∙ nat_list_eq_equiv.refl y in
            absurd cc

    from : (ks : List Specifier) (i v : ℕ) → IsDistinct bytes_eq ks → v < length ks
        → position_from (bytes_eq (slice_index_or ks v [])) i ks ≡ Some (i + v)
    from [] i v once l = absurd (omega arith)
    from (k ∷ ks) i zero once l = rw (nat_list_eq_equiv.refl k) (ap Some (omega arith))
    from (k ∷ ks) i (suc v) once l =
        let apart = back (slice_index_or ks v []) k
        (apart_from_distinct bytes_eq (k ∷ ks) 0 (suc v) [] once (omega arith) l) in
        rw apart (from ks (i + 1) v (IsDistinct-tail bytes_eq k ks once) (omega (arith, l)) ∙ ap Some (omega arith))
