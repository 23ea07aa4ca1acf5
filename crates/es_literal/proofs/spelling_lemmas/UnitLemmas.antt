-- Runs of units are found, and end where no unit is.
use Rattle.std.proofs.Common.{◌≡◌, ℕ, zero, suc, ◌+◌, ◌-◌, ◌<◌, ◌≤◌, ◌^◌, false, ◌==◌, List, [], ◌∷◌, ◌++◌, length, drop, refl, sym, ◌∙◌, ap, subst, arith, append_assoc, length-append, length-drop, eq-eqb, drop_at}
use Rattle.std.proofs.lemmas.Bool.Decides.{nat_tests}
use Rattle.es_literal.specs.spelling.Units.{concat, AreUnits, units_end, units_rest}

pub ap2 : {A B C : Type 0} (f : A → B → C) {a c : A} {b d : B} → a ≡ c → b ≡ d → f a b ≡ f c d
ap2 f p q = λ i. f (p i) (q i)

-- a unit is within its text
abbrev pub Within : (List ℕ → ℕ) → Type 0
Within size = (s : List ℕ) → size s ≤ length s

not_zero : (n : ℕ) → 0 < n → (n == 0) ≡ false
not_zero n l = grind (arith, nat_tests)

-- what is left of a unit is passed over
pub passes_left : (size : List ℕ → ℕ) (at : ℕ) (s after : List ℕ)
    → units_end size at (length s) (s ++ after) ≡ units_end size (at + length s) 0 after
unfolding units_end
passes_left size at [] after = ap (λ n. units_end size n 0 after) (let e : at ≡ at + 0 = omega arith in e)
passes_left size at (b ∷ s) after =
    passes_left size (at + 1) s after
    ∙ ap (λ n. units_end size n 0 after) (let e : at + 1 + length s ≡ at + length (b ∷ s) = omega arith in e)

pub passes_unit : (size : List ℕ → ℕ) (at : ℕ) (u after : List ℕ) → size (u ++ after) ≡ length u → 0 < length u
    → units_end size at 0 (u ++ after) ≡ units_end size (at + length u) 0 after
unfolding units_end
passes_unit size at [] after e l = absurd (omega arith)
passes_unit size at (b ∷ u) after e l =
    let left : size (b ∷ (u ++ after)) - 1 ≡ length u = omega (arith, e) in
    rw (not_zero (size (b ∷ (u ++ after))) (omega (arith, e)))
    (ap (λ n. units_end size (at + 1) n (u ++ after)) left
    ∙ (passes_left size (at + 1) u after
    ∙ ap (λ n. units_end size n 0 after) (let q : at + 1 + length u ≡ at + length (b ∷ u) = omega arith in q)))

-- units are passed over
pub passes_units : (size : List ℕ → ℕ) (at : ℕ) (us : List (List ℕ)) (after : List ℕ) → AreUnits size us after
    → units_end size at 0 (concat us ++ after) ≡ units_end size (at + length (concat us)) 0 after
passes_units size at [] after h = ap (λ n. units_end size n 0 after) (let e : at ≡ at + 0 = omega arith in e)
passes_units size at (u ∷ us) after h =
    ap (units_end size at 0) (append_assoc u (concat us) after)
    ∙ (passes_unit size at u (concat us ++ after) h.0 h.1
    ∙ (passes_units size (at + length u) us after h.2
    ∙ ap (λ n. units_end size n 0 after)
    (let e : at + length u + length (concat us) ≡ at + length (u ++ concat us) =
    omega (arith, length-append u (concat us)) in e)))

-- and end where none is
pub stops : (size : List ℕ → ℕ) (at : ℕ) (after : List ℕ) → size after ≡ 0 → units_end size at 0 after ≡ at
unfolding units_end
stops size at [] e = refl
stops size at (b ∷ after) e = rw (eq-eqb (size (b ∷ after)) 0 e) refl

-- ---- the rest
rest_left : (size : List ℕ → ℕ) (s after : List ℕ) → units_rest size (length s) (s ++ after) ≡ units_rest size 0 after
unfolding units_rest
rest_left size [] after = refl
rest_left size (b ∷ s) after = rest_left size s after

rest_unit : (size : List ℕ → ℕ) (u after : List ℕ) → size (u ++ after) ≡ length u → 0 < length u
    → units_rest size 0 (u ++ after) ≡ units_rest size 0 after
unfolding units_rest
rest_unit size [] after e l = absurd (omega arith)
rest_unit size (b ∷ u) after e l =
    let left : size (b ∷ (u ++ after)) - 1 ≡ length u = omega (arith, e) in
    rw (not_zero (size (b ∷ (u ++ after))) (omega (arith, e)))
    (ap (λ n. units_rest size n (u ++ after)) left ∙ rest_left size u after)

pub rest_units : (size : List ℕ → ℕ) (us : List (List ℕ)) (after : List ℕ) → AreUnits size us after
    → units_rest size 0 (concat us ++ after) ≡ units_rest size 0 after
rest_units size [] after h = refl
rest_units size (u ∷ us) after h =
    ap (units_rest size 0) (append_assoc u (concat us) after)
    ∙ (rest_unit size u (concat us ++ after) h.0 h.1 ∙ rest_units size us after h.2)

pub rest_stops : (size : List ℕ → ℕ) (after : List ℕ) → size after ≡ 0 → units_rest size 0 after ≡ after
unfolding units_rest
rest_stops size [] e = refl
rest_stops size (b ∷ after) e = rw (eq-eqb (size (b ∷ after)) 0 e) refl

-- a text is units and what follows
pub record Units (size : List ℕ → ℕ) (at : ℕ) (s : List ℕ) : Type 0 where
  pub units : List (List ℕ)
  pub back : List ℕ
  pub whole : s ≡ concat units ++ back
  pub each : AreUnits size units back
  pub ends : size back ≡ 0
  pub end : units_end size at 0 s ≡ at + length (concat units)
  pub rest : units_rest size 0 s ≡ back

none : (size : List ℕ → ℕ) (at : ℕ) (s : List ℕ) → size s ≡ 0 → Units size at s
none size at s e = record {
  units = [];
  back = s;
  whole = refl;
  each = tt;
  ends = e;
  end = stops size at s e ∙ (let q : at ≡ at + 0 = omega arith in q);
  rest = rest_stops size s e;
}

-- a unit in front of units
pub unit_more : (size : List ℕ → ℕ) (at : ℕ) (u rest : List ℕ) → size (u ++ rest) ≡ length u → 0 < length u
    → Units size (at + length u) rest → Units size at (u ++ rest)
unit_more size at u rest e l r =
    let here : size (u ++ (concat r.units ++ r.back)) ≡ length u = ap (λ t. size (u ++ t)) (sym r.whole) ∙ e in
    record {
      units = u ∷ r.units;
      back = r.back;
      whole = ap (λ t. u ++ t) r.whole ∙ sym (append_assoc u (concat r.units) r.back);
      each = (here, l, r.each);
      ends = r.ends;
      end = passes_unit size at u rest e l ∙ (r.end
          ∙ (let q : at + length u + length (concat r.units) ≡ at + length (u ++ concat r.units) =
          omega (arith, length-append u (concat r.units)) in q));
      rest = rest_unit size u rest e l ∙ r.rest;
    }

split : (n : ℕ) (s : List ℕ) → n ≤ length s → (u : List ℕ) × (rest : List ℕ) × (s ≡ u ++ rest) × (length u ≡ n)
split zero s l = ([], s, refl, refl)
split (suc n) [] l = absurd (omega arith)
split (suc n) (b ∷ s) l =
    let r : (u : List ℕ) × (rest : List ℕ) × (s ≡ u ++ rest) × (length u ≡ n) = split n s (omega arith) in
    (b ∷ r.0, r.1, ap (λ t. b ∷ t) r.2, ap suc r.3)

-- each text is
units_step : (size : List ℕ → ℕ) → Within size → (fuel : ℕ)
    → ((at : ℕ) (s : List ℕ) → length s ≤ fuel → Units size at s) → (at : ℕ) (s : List ℕ) (n : ℕ) → size s ≡ n
    → length s ≤ suc fuel → Units size at s
units_step size w fuel more at s zero e l = none size at s e
units_step size w fuel more at s (suc n) e l =
    let inside : size s ≤ length s = w s in
    let r : (u : List ℕ) × (rest : List ℕ) × (s ≡ u ++ rest) × (length u ≡ suc n) = split (suc n) s (omega arith) in
    let long : length r.0 ≡ suc n = r.3 in
    let same : size (r.0 ++ r.1) ≡ length r.0 = ap size (sym r.2) ∙ (e ∙ sym r.3) in
    let full : length s ≡ length (r.0 ++ r.1) = ap length r.2 in
    subst (Units size at) (sym r.2)
    (unit_more size at r.0 r.1 same (omega arith)
    (more (at + length r.0) r.1 (omega (arith, length-append r.0 r.1))))

units_by : (size : List ℕ → ℕ) → Within size → (fuel at : ℕ) (s : List ℕ) → length s ≤ fuel → Units size at s
units_by size w zero at [] l = none size at [] (let i : size [] ≤ length {A = ℕ} [] = w [] in omega arith)
units_by size w zero at (b ∷ s) l = absurd (omega arith)
units_by size w (suc fuel) at s l = units_step size w fuel (units_by size w fuel) at s (size s) refl l

pub units : (size : List ℕ → ℕ) → Within size → (at : ℕ) (s : List ℕ) → Units size at s
units size w at s = units_by size w (length s) at s (omega arith)

-- one unit of a loop
pub record Step (size : List ℕ → ℕ) (at : ℕ) (s : List ℕ) : Type 0 where
  pub end : units_end size at 0 s ≡ units_end size (at + size s) 0 (drop (size s) s)
  pub rest : units_rest size 0 s ≡ units_rest size 0 (drop (size s) s)

step_by : (size : List ℕ → ℕ) (at : ℕ) (s u rest : List ℕ) → s ≡ u ++ rest → size s ≡ length u → 0 < length u
    → Step size at s
step_by size at s u rest w e l =
    let same : size (u ++ rest) ≡ length u = ap size (sym w) ∙ e in
    let back : drop (size s) s ≡ rest = ap2 drop e w ∙ drop_at u rest (length u) refl in
    record {
      end = ap (units_end size at 0) w ∙ (passes_unit size at u rest same l
          ∙ ap2 (λ n t. units_end size n 0 t) (ap (λ n. at + n) (sym e)) (sym back));
      rest = ap (units_rest size 0) w ∙ (rest_unit size u rest same l ∙ ap (units_rest size 0) (sym back));
    }

pub step : (size : List ℕ → ℕ) (at : ℕ) (s : List ℕ) → 0 < size s → size s ≤ length s → Step size at s
step size at s l w =
    let r : (u : List ℕ) × (rest : List ℕ) × (s ≡ u ++ rest) × (length u ≡ size s) = split (size s) s w in
    step_by size at s r.0 r.1 r.2 (sym r.3) (let q : length r.0 ≡ size s = r.3 in omega arith)

-- one turn of a loop
pub record Turn (size : List ℕ → ℕ) (at first n : ℕ) (s t bytes : List ℕ) : Type 0 where
  pub end : units_end size (at + n) 0 t ≡ units_end size first 0 bytes
  pub rest : units_rest size 0 t ≡ units_rest size 0 bytes

pub turn : (size : List ℕ → ℕ) (at first n : ℕ) (s t bytes : List ℕ) → n ≡ size s → 0 < n → n ≤ length s
    → t ≡ drop n s → units_end size at 0 s ≡ units_end size first 0 bytes
    → units_rest size 0 s ≡ units_rest size 0 bytes → Turn size at first n s t bytes
turn size at first n s t bytes e l w d p q =
    let one : Step size at s = step size at s (omega arith) (omega arith) in
    let left : drop (size s) s ≡ t = ap (λ m. drop m s) (sym e) ∙ sym d in
    record {
      end = ap2 (λ m v. units_end size m 0 v) (ap (λ m. at + m) e) (sym left) ∙ (sym one.end ∙ p);
      rest = ap (units_rest size 0) (sym left) ∙ (sym one.rest ∙ q);
    }

pub turn_fits : (at n : ℕ) (s t : List ℕ) → t ≡ drop n s → n ≤ length s → at + length s < 2 ^ 64
    → at + n + length t < 2 ^ 64
turn_fits at n s t e l f =
    let size : length t ≡ length (drop n s) = ap length e in
    omega (arith, length-drop n s)

-- one turn of a loop that keeps the rest alone
pub record RestTurn (size : List ℕ → ℕ) (s t text : List ℕ) : Type 0 where
  pub same : units_rest size 0 t ≡ units_rest size 0 text
  pub less : length t ≤ length text

pub rest_turn : (size : List ℕ → ℕ) (n : ℕ) (s t text : List ℕ) → n ≡ size s → 0 < n → n ≤ length s
    → t ≡ drop n s → units_rest size 0 s ≡ units_rest size 0 text → length s ≤ length text
    → RestTurn size s t text
rest_turn size n s t text e l w d q m =
    let one : Turn size 0 0 n s t s = turn size 0 0 n s t s e l w d refl refl in
    let size : length t ≡ length (drop n s) = ap length d in
    record { same = one.rest ∙ q; less = omega (arith, length-drop n s) }

-- the place behind the text stays
pub turn_place : (at n : ℕ) (s t : List ℕ) → t ≡ drop n s → n ≤ length s → at + n + length t ≡ at + length s
turn_place at n s t e l =
    let size : length t ≡ length (drop n s) = ap length e in
    omega (arith, length-drop n s)
