-- The literals of a module's text.
use Rattle.std.proofs.Common.{◌≡◌, ◌∙◌, ◌⊎◌, inl, inr, refl, sym, ap, subst, ℕ, ◌+◌, ◌*◌, ◌<◌, ◌^◌, ◌==◌, ◌%◌, Bool, true, false, List, [], ◌∷◌, ◌++◌, append_assoc, decimal, arith}
use Rattle.std.specs.Prelude.{codes, nat_lt, if◌then◌else◌}
use Rattle.std.proofs.lemmas.Fmt.{decimal_by_steps, decimal_digit}
use Rattle.std.proofs.lemmas.Bool.{ltb-true}
use Rattle.made_bundle.specs.Made.{child_line, back_line, declared, assigned, value_line, module_text}
use Rattle.made_laws.proofs.Joined.{import_text}
use Rattle.made_laws.proofs.Scan.{Each, each_append, IsFree, IsInner, inner_free, head_is, tail_is, Occurs, Where, here, behind, later, where_it_is, ends_semicolon, ends_call, no_more}

-- what stands behind a literal
abbrev feed : List ℕ → List ℕ
feed rest = 10 ∷ rest

abbrev semicolon : List ℕ → List ℕ
semicolon rest = 59 ∷ 10 ∷ rest

abbrev call : List ℕ → List ℕ
call rest = 41 ∷ 59 ∷ 10 ∷ rest

-- a law of each digit is one of each byte of a number
pub each_of : (Q : ℕ → Type 0) → ((m : ℕ) → m < 10 → Q (48 + m)) → (n : ℕ) → n < 2 ^ 64 → Each Q (decimal n)
each_of Q each =
    decimal_by_steps (λ n ds. Each Q ds) (λ m l. (each m l, tt))
    (λ m ds l h. each_append Q ds ((48 + m % 10) ∷ []) h (each (m % 10) (omega arith), tt))

free_number : (n : ℕ) → n < 2 ^ 64 → Each IsFree (decimal n)
free_number = each_of IsFree (λ m l e. omega (arith, e))

free_import : (j : ℕ) → j < 2 ^ 64 → Each IsFree (import_text j)
free_import j l = (
  λ e. omega (arith, e),
  (
    λ e. omega (arith, e),
    each_append IsFree (decimal j) (codes ".ts") (free_number j l)
        (λ e. omega (arith, e), (λ e. omega (arith, e), (λ e. omega (arith, e), tt))),
  ),
)

front_free : Each IsFree (codes "import ")
front_free = (
  λ e. omega (arith, e),
  (
    λ e. omega (arith, e),
    (
      λ e. omega (arith, e),
      (
        λ e. omega (arith, e),
        (λ e. omega (arith, e), (λ e. omega (arith, e), (λ e. omega (arith, e), tt))),
      ),
    ),
  ),
)

call_free : Each IsFree (codes "import(")
call_free = (
  λ e. omega (arith, e),
  (
    λ e. omega (arith, e),
    (
      λ e. omega (arith, e),
      (
        λ e. omega (arith, e),
        (λ e. omega (arith, e), (λ e. omega (arith, e), (λ e. omega (arith, e), tt))),
      ),
    ),
  ),
)

-- ---- the import of a child

line_text : (c : ℕ) (rest : List ℕ) → (codes "import \"./" ++ decimal c ++ codes ".ts\";\n") ++ rest
    ≡ codes "import " ++ 34 ∷ (import_text c ++ 34 ∷ (59 ∷ 10 ∷ rest))
line_text c rest =
    ap (λ (x : List ℕ). codes "import \"./" ++ x)
    (append_assoc (decimal c) (codes ".ts\";\n") rest
    ∙ sym (append_assoc (decimal c) (codes ".ts") (codes "\";\n" ++ rest)))

by_where : (literal rest value : List ℕ) → Each IsInner value → Where literal (59 ∷ 10 ∷ rest) value
    → (value ≡ literal) ⊎ Occurs (59 ∷ 10 ∷ rest) value
by_where literal rest value v (here is) = inl is
by_where literal rest value v (behind s e) = absurd (ends_semicolon value s rest v e)
by_where literal rest value v (later o) = inr o

-- what stands behind a line's end stands behind it
behind_end : (rest value : List ℕ) → Occurs (59 ∷ 10 ∷ rest) value → Occurs rest value
behind_end rest value o = two o.before o.whole
  where
    one : (p : List ℕ) → feed rest ≡ p ++ 34 ∷ (value ++ 34 ∷ o.after) → Occurs rest value
    one [] e = absurd (let bad = head_is e in let worse : ⊥ = omega (arith, bad) in worse)
    one (b ∷ p) e = record { before = p; after = o.after; whole = tail_is e }

    two : (p : List ℕ) → semicolon rest ≡ p ++ 34 ∷ (value ++ 34 ∷ o.after) → Occurs rest value
    two [] e = absurd (let bad = head_is e in let worse : ⊥ = omega (arith, bad) in worse)
    two (b ∷ p) e = one p (tail_is e)

import_step : (c : ℕ) (rest value : List ℕ) → c < 2 ^ 64 → Each IsInner value
    → Occurs ((codes "import \"./" ++ decimal c ++ codes ".ts\";\n") ++ rest) value
    → (value ≡ import_text c) ⊎ Occurs rest value
import_step c rest value l v o =
    on (by_where (import_text c) rest value v
    (where_it_is (codes "import ") (import_text c) (59 ∷ 10 ∷ rest) value front_free (free_import c l)
    (inner_free value v) (subst (λ (t : List ℕ). Occurs t value) (line_text c rest) o)))
  where
    on : (value ≡ import_text c) ⊎ Occurs (59 ∷ 10 ∷ rest) value → (value ≡ import_text c) ⊎ Occurs rest value
    on (inl is) = inl is
    on (inr more) = inr (behind_end rest value more)

-- one of the first so many modules is imported
pub record Imports (count : ℕ) (value : List ℕ) : Type 0 where
  pub number : ℕ
  pub below : number < count
  pub is : value ≡ import_text number

child_step : (count c : ℕ) (rest value : List ℕ) → c < 2 ^ 64 → Each IsInner value
    → Occurs (child_line count c ++ rest) value → Imports count value ⊎ Occurs rest value
unfolding child_line
child_step count c rest value l v o = by (nat_lt c count) refl o
  where
    told : c < count → (value ≡ import_text c) ⊎ Occurs rest value → Imports count value ⊎ Occurs rest value
    told below (inl is) = inl (record { number = c; below = below; is = is })
    told below (inr more) = inr more

    by : (b : Bool) → nat_lt c count ≡ b
        → Occurs ((if b then codes "import \"./" ++ decimal c ++ codes ".ts\";\n" else []) ++ rest) value
        → Imports count value ⊎ Occurs rest value
    by true is found = told (ltb-true c count is) (import_step c rest value l v found)
    by false is found = inr found

-- ---- the import of the first module

call_step : (rest value : List ℕ) → Each IsInner value → Occurs (codes "import(\"./0.ts\");\n" ++ rest) value
    → (value ≡ import_text 0) ⊎ Occurs rest value
call_step rest value v o = on (where_it_is (codes "import(") (codes "./0.ts") (41 ∷ 59 ∷ 10 ∷ rest) value call_free (
  λ e. omega (arith, e),
  (
    λ e. omega (arith, e),
    (
      λ e. omega (arith, e),
      (
        λ e. omega (arith, e),
        (
          λ e. omega (arith, e),
          (λ e. omega (arith, e), tt),
        ),
      ),
    ),
  ),
) (inner_free value v) o)
  where
    skip : (p : List ℕ) (x : List ℕ) → call rest ≡ p ++ 34 ∷ (value ++ 34 ∷ x) → Occurs rest value
    skip [] x e = absurd (let bad = head_is e in let worse : ⊥ = omega (arith, bad) in worse)
    skip (b ∷ p) x e = behind_end rest value (record { before = p; after = x; whole = tail_is e })

    on : Where (codes "./0.ts") (41 ∷ 59 ∷ 10 ∷ rest) value → (value ≡ import_text 0) ⊎ Occurs rest value
    on (here is) = inl (is ∙ ap (λ (x : List ℕ). 46 ∷ 47 ∷ (x ++ codes ".ts")) (sym (decimal_digit 0 (omega arith))))
    on (behind s e) = absurd (ends_call value s rest v e)
    on (later more) = inr (skip more.before more.after more.whole)

back_step : (count i : ℕ) (rest value : List ℕ) → 0 < count → Each IsInner value → Occurs (back_line i ++ rest) value
    → Imports count value ⊎ Occurs rest value
unfolding back_line
back_step count i rest value some v o = by (i == 0) o
  where
    told : (value ≡ import_text 0) ⊎ Occurs rest value → Imports count value ⊎ Occurs rest value
    told (inl is) = inl (record { number = 0; below = some; is = is })
    told (inr more) = inr more

    by : (b : Bool) → Occurs ((if b then [] else codes "import(\"./0.ts\");\n") ++ rest) value
        → Imports count value ⊎ Occurs rest value
    by true found = inr found
    by false found = told (call_step rest value v found)

-- ---- the value

value_free : (i : ℕ) → i < 2 ^ 64 → Each IsFree (value_line i)
unfolding value_line declared assigned
value_free i l =
    each_append IsFree (codes "export const v" ++ decimal i) (codes " = " ++ decimal i ++ codes ";\n") (
      λ e. omega (arith, e),
      (
        λ e. omega (arith, e),
        (
          λ e. omega (arith, e),
          (
            λ e. omega (arith, e),
            (
              λ e. omega (arith, e),
              (
                λ e. omega (arith, e),
                (
                  λ e. omega (arith, e),
                  (
                    λ e. omega (arith, e),
                    (
                      λ e. omega (arith, e),
                      (
                        λ e. omega (arith, e),
                        (
                          λ e. omega (arith, e),
                          (
                            λ e. omega (arith, e),
                            (
                              λ e. omega (arith, e),
                              (
                                λ e. omega (arith, e),
                                free_number i l,
                              ),
                            ),
                          ),
                        ),
                      ),
                    ),
                  ),
                ),
              ),
            ),
          ),
        ),
      ),
    ) (
      λ e. omega (arith, e),
      (
        λ e. omega (arith, e),
        (
          λ e. omega (arith, e),
          each_append IsFree (decimal i) (codes ";\n") (free_number i l)
              (λ e. omega (arith, e), (λ e. omega (arith, e), tt)),
        ),
      ),
    )

-- ---- the whole

pub module_literals : (count i : ℕ) (value : List ℕ) → i < count → count < 2 ^ 62 → Each IsInner value
    → Occurs (module_text count i) value → Imports count value
unfolding module_text
module_literals count i value below few v o =
    let a = child_line count (2 * i + 1) in
    let b = child_line count (2 * i + 2) in
    let c = back_line i in
    let d = value_line i in
    let whole : module_text count i ≡ a ++ (b ++ (c ++ d))
    = append_assoc (a ++ b) c d ∙ append_assoc a b (c ++ d) in
    first (child_step count (2 * i + 1) (b ++ (c ++ d)) value (omega (arith, below, few)) v
    (subst (λ (t : List ℕ). Occurs t value) whole o))
  where
    third : Imports count value ⊎ Occurs (value_line i) value → Imports count value
    third (inl is) = is
    third (inr more) = absurd (no_more (value_line i) value (value_free i (omega (arith, below, few))) more)

    second : Imports count value ⊎ Occurs (back_line i ++ value_line i) value → Imports count value
    second (inl is) = is
    second (inr more) = third (back_step count i (value_line i) value (omega (arith, below)) v more)

    first : Imports count value ⊎ Occurs (child_line count (2 * i + 2) ++ (back_line i ++ value_line i)) value
        → Imports count value
    first (inl is) = is
    first (inr more) =
        second (child_step count (2 * i + 2) (back_line i ++ value_line i) value (omega (arith, below, few)) v more)
