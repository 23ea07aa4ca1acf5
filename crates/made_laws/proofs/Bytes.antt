-- The bytes of a module's text.
use Rattle.std.proofs.Common.{◌≡◌, ◌∙◌, refl, sym, ap, subst, ℕ, ◌+◌, ◌*◌, ◌<◌, ◌≤◌, ◌^◌, ◌==◌, Bool, true, false, not, ◌&&◌, List, [], ◌∷◌, ◌++◌, append_assoc, append-nil, decimal, arith}
use Rattle.std.specs.Prelude.{codes, nat_lt, if◌then◌else◌}
use Rattle.std.specs.List.{list_all}
use Rattle.std.proofs.lemmas.Bool.{and_parts}
use Rattle.made_bundle.specs.Made.{child_line, back_line, declared, assigned, value_line, module_text}
use Rattle.made_laws.proofs.Digits.{each_digit}
use Rattle.made_laws.proofs.Scan.{Each, each_append}
use Rattle.made_laws.proofs.Lines.{each_of}
use Rattle.made_laws.proofs.Urls.{begins_with_digit}

-- a test of each byte
abbrev pub Passing : (ℕ → Bool) → ℕ → Type 0
Passing test b = test b ≡ true

pub each_all : (test : ℕ → Bool) (xs : List ℕ) → list_all test xs ≡ true → Each (Passing test) xs
each_all test [] h = tt
each_all test (x ∷ xs) h =
    let both = and_parts (test x) (list_all test xs) h in (both.0, each_all test xs both.1)

pub each_split : (Q : ℕ → Type 0) (xs ys : List ℕ) → Each Q (xs ++ ys) → Each Q xs × Each Q ys
each_split Q [] ys h = (tt, h)
each_split Q (x ∷ xs) ys h = let more = each_split Q xs ys h.1 in ((h.0, more.0), more.1)

pub each_weaker : (P Q : ℕ → Type 0) → ((b : ℕ) → P b → Q b) → (xs : List ℕ) → Each P xs → Each Q xs
each_weaker P Q step [] h = tt
each_weaker P Q step (x ∷ xs) h = (step x h.0, each_weaker P Q step xs h.1)

-- neither a single quote nor a backslash nor NUL, and of ASCII
abbrev pub is_clean : ℕ → Bool
is_clean b = not (b == 39) && (not (b == 92) && (nat_lt 0 b && nat_lt b 128))

abbrev pub IsClean : ℕ → Type 0
IsClean b = Passing is_clean b

clean_number : (n : ℕ) → n < 2 ^ 64 → Each IsClean (decimal n)
clean_number = each_of IsClean (each_digit IsClean refl refl refl refl refl refl refl refl refl refl)

clean_child : (count c : ℕ) → c < 2 ^ 64 → Each IsClean (child_line count c)
unfolding child_line
clean_child count c l = by (nat_lt c count)
  where
    by : (b : Bool) → Each IsClean (if b then codes "import \"./" ++ decimal c ++ codes ".ts\";\n" else [])
    by true =
        each_append IsClean (codes "import \"./" ++ decimal c) (codes ".ts\";\n")
        (each_append IsClean (codes "import \"./") (decimal c) (each_all is_clean (codes "import \"./") refl)
        (clean_number c l)) (each_all is_clean (codes ".ts\";\n") refl)
    by false = tt

clean_back : (i : ℕ) → Each IsClean (back_line i)
unfolding back_line
clean_back i = by (i == 0)
  where
    by : (b : Bool) → Each IsClean (if b then [] else codes "import(\"./0.ts\");\n")
    by true = tt
    by false = each_all is_clean (codes "import(\"./0.ts\");\n") refl

clean_value : (i : ℕ) → i < 2 ^ 64 → Each IsClean (value_line i)
unfolding value_line declared assigned
clean_value i l =
    each_append IsClean (codes "export const v" ++ decimal i) (codes " = " ++ decimal i ++ codes ";\n")
    (each_append IsClean (codes "export const v") (decimal i) (each_all is_clean (codes "export const v") refl)
    (clean_number i l))
    (each_append IsClean (codes " = " ++ decimal i) (codes ";\n")
    (each_append IsClean (codes " = ") (decimal i) (each_all is_clean (codes " = ") refl) (clean_number i l))
    (each_all is_clean (codes ";\n") refl))

pub clean_module : (count i : ℕ) → i < count → count < 2 ^ 62 → Each IsClean (module_text count i)
unfolding module_text
clean_module count i below few =
    let a = child_line count (2 * i + 1) in
    let b = child_line count (2 * i + 2) in
    let c = back_line i in
    let d = value_line i in
    each_append IsClean (a ++ b ++ c) d
    (each_append IsClean (a ++ b) c
    (each_append IsClean a b (clean_child count (2 * i + 1) (omega (arith, below, few)))
    (clean_child count (2 * i + 2) (omega (arith, below, few)))) (clean_back i))
    (clean_value i (omega (arith, below, few)))

-- ---- a digit stands behind each slash

abbrev pub BeginsHigh : List ℕ → Type 0
BeginsHigh [] = ⊥
BeginsHigh (x ∷ rest) = 48 ≤ x

abbrev pub AreSafe : List ℕ → Type 0
AreSafe [] = Unit {0}
AreSafe (b ∷ rest) = (b ≡ 47 → BeginsHigh rest) × AreSafe rest

abbrev no_slash : ℕ → Bool
no_slash b = not (b == 47)

safe_front : (xs ys : List ℕ) → Each (Passing no_slash) xs → AreSafe ys → AreSafe (xs ++ ys)
safe_front [] ys h k = k
safe_front (x ∷ xs) ys h k = (λ e. absurd (differs x h.0 e), safe_front xs ys h.1 k)
  where
    differs : (b : ℕ) → no_slash b ≡ true → b ≡ 47 → ⊥
    differs b p e = let bad : no_slash 47 ≡ true = subst (λ (n : ℕ). no_slash n ≡ true) e p in cc

number_safe : (n : ℕ) → n < 2 ^ 64 → Each (Passing no_slash) (decimal n)
number_safe = each_of (Passing no_slash)
    (each_digit (Passing no_slash) refl refl refl refl refl refl refl refl refl refl)

safe_import : (c : ℕ) (rest : List ℕ) → c < 2 ^ 64 → AreSafe rest
    → AreSafe ((codes "import \"./" ++ decimal c ++ codes ".ts\";\n") ++ rest)
safe_import c rest l k =
    let behind : AreSafe (decimal c ++ (codes ".ts\";\n" ++ rest))
    = safe_front (decimal c) (codes ".ts\";\n" ++ rest) (number_safe c l)
    (safe_front (codes ".ts\";\n") rest (each_all no_slash (codes ".ts\";\n") refl) k) in
    let first = begins_with_digit c l in
    let high : BeginsHigh (decimal c ++ (codes ".ts\";\n" ++ rest))
    = subst (λ (x : List ℕ). BeginsHigh (x ++ (codes ".ts\";\n" ++ rest))) (sym first.is) (omega arith) in
    subst AreSafe (sym (ap (λ (x : List ℕ). codes "import \"./" ++ x)
    (append_assoc (decimal c) (codes ".ts\";\n") rest)))
    (safe_front (codes "import \".") (47 ∷ (decimal c ++ (codes ".ts\";\n" ++ rest)))
    (each_all no_slash (codes "import \".") refl) (λ e. high, behind))

safe_child : (count c : ℕ) (rest : List ℕ) → c < 2 ^ 64 → AreSafe rest → AreSafe (child_line count c ++ rest)
unfolding child_line
safe_child count c rest l k = by (nat_lt c count)
  where
    by : (b : Bool) → AreSafe ((if b then codes "import \"./" ++ decimal c ++ codes ".ts\";\n" else []) ++ rest)
    by true = safe_import c rest l k
    by false = k

safe_back : (i : ℕ) (rest : List ℕ) → AreSafe rest → AreSafe (back_line i ++ rest)
unfolding back_line
safe_back i rest k = by (i == 0)
  where
    by : (b : Bool) → AreSafe ((if b then [] else codes "import(\"./0.ts\");\n") ++ rest)
    by true = k
    by false =
        safe_front (codes "import(\".") (47 ∷ (codes "0.ts\");\n" ++ rest))
        (each_all no_slash (codes "import(\".") refl)
        (λ e. omega arith, safe_front (codes "0.ts\");\n") rest (each_all no_slash (codes "0.ts\");\n") refl) k)

safe_value : (i : ℕ) → i < 2 ^ 64 → AreSafe (value_line i)
unfolding value_line declared assigned
safe_value i l =
    subst AreSafe (append-nil (codes "export const v" ++ decimal i ++ (codes " = " ++ decimal i ++ codes ";\n")))
    (safe_front (codes "export const v" ++ decimal i ++ (codes " = " ++ decimal i ++ codes ";\n")) []
    (each_append (Passing no_slash) (codes "export const v" ++ decimal i) (codes " = " ++ decimal i ++ codes ";\n")
    (each_append (Passing no_slash) (codes "export const v") (decimal i)
    (each_all no_slash (codes "export const v") refl)
    (number_safe i l))
    (each_append (Passing no_slash) (codes " = " ++ decimal i) (codes ";\n")
    (each_append (Passing no_slash) (codes " = ") (decimal i) (each_all no_slash (codes " = ") refl) (number_safe i l))
    (each_all no_slash (codes ";\n") refl))) tt)

pub safe_module : (count i : ℕ) → i < count → count < 2 ^ 62 → AreSafe (module_text count i)
unfolding module_text
safe_module count i below few =
    let a = child_line count (2 * i + 1) in
    let b = child_line count (2 * i + 2) in
    let c = back_line i in
    let d = value_line i in
    subst AreSafe (sym (append_assoc (a ++ b) c d ∙ append_assoc a b (c ++ d)))
    (safe_child count (2 * i + 1) (b ++ (c ++ d)) (omega (arith, below, few))
    (safe_child count (2 * i + 2) (c ++ d) (omega (arith, below, few))
    (safe_back i d (safe_value i (omega (arith, below, few))))))

-- so no comment begins in it
pub behind_slash : (before : List ℕ) (x : ℕ) (after : List ℕ) → AreSafe (before ++ 47 ∷ x ∷ after) → 48 ≤ x
behind_slash [] x after h = h.0 refl
behind_slash (b ∷ before) x after h = behind_slash before x after h.1
