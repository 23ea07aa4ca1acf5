-- What stands behind an escape doesn't tell what it is.
use Rattle.std.proofs.Common.{◌≡◌, ℕ, zero, suc, ◌+◌, ◌*◌, ◌≤◌, Bool, true, false, ◌&&◌, ◌==◌, eqb-true, nat_le, List, [], ◌∷◌, ◌++◌, length, Option, Some, None, if◌then◌else◌, refl, sym, ◌∙◌, ap, arith}
use Rattle.es_unicode.specs.declared.escape.Escape.{Escape}
use Rattle.es_unicode.specs.Escapes.{is_hex, hex, four_code, four_escape, point_escape, braced_escape, unicode_escape, escape_at, is_name_start, is_name_part, size_if, escaped_start, escaped_part}

-- ---- sizes
abbrev made : ℕ → ℕ → Escape
made code size = record { code = code; size = size }

made_size : (code size : ℕ) (e : Escape) → Some (made code size) ≡ Some e → size ≡ e.size
made_size code size e h = let same : made code size ≡ e = cc in ap (λ (v : Escape). v.size) same

abbrev Sized : ℕ → ℕ → Escape → Type 0
Sized low high e = (low ≤ e.size) × (e.size ≤ high)

point_size_by : (size value b : ℕ) (s : List ℕ) (e : Escape) (v w : Bool) → (b == 125) ≡ v
    → (is_hex b && nat_le (value * 16 + hex b) 0x10FFFF) ≡ w
    → (point_escape (size + 1) (value * 16 + hex b) s ≡ Some e → Sized (size + 2) (size + 1 + length s) e)
    → point_escape size value (b ∷ s) ≡ Some e → Sized (size + 1) (size + length (b ∷ s)) e
unfolding point_escape
point_size_by size value b s e true w p q m h =
    let f : Some (made value (size + 1)) ≡ Some e = rw p at h in
    let n : size + 1 ≡ e.size = made_size value (size + 1) e f in
    (omega arith, omega arith)
point_size_by size value b s e false true p q m h =
    let f : point_escape (size + 1) (value * 16 + hex b) s ≡ Some e = rw (p, q) at h in
    let low : size + 2 ≤ e.size = (m f).0 in
    let high : e.size ≤ size + 1 + length s = (m f).1 in
    (omega arith, omega arith)
point_size_by size value b s e false false p q m h =
    let f : None ≡ Some e = rw (p, q) at h in cc

point_size : (size value : ℕ) (s : List ℕ) (e : Escape) → point_escape size value s ≡ Some e
    → Sized (size + 1) (size + length s) e
unfolding point_escape
point_size size value [] e h = cc
point_size size value (b ∷ s) e h =
    point_size_by size value b s e (b == 125) (is_hex b && nat_le (value * 16 + hex b) 0x10FFFF) refl refl
    (λ f. let n : Sized (size + 1 + 1) (size + 1 + length s) e = point_size (size + 1) (value * 16 + hex b) s e f in
    let low : size + 1 + 1 ≤ e.size = n.0 in (omega arith, n.1)) h

four_size_by : (c d g i : ℕ) (v : Bool) (e : Escape)
    → (if v then Some (made (four_code c d g i) 6) else None) ≡ Some e → e.size ≡ 6
four_size_by c d g i true e h =
    sym (made_size (four_code c d g i) 6 e h)
four_size_by c d g i false e h = cc

four_size : (s : List ℕ) (e : Escape) → four_escape s ≡ Some e → (e.size ≡ 6) × (4 ≤ length s)
unfolding four_escape
four_size [] e h = cc
four_size (c ∷ []) e h = cc
four_size (c ∷ d ∷ []) e h = cc
four_size (c ∷ d ∷ g ∷ []) e h = cc
four_size (c ∷ d ∷ g ∷ i ∷ s) e h =
    (four_size_by c d g i (is_hex c && is_hex d && (is_hex g && is_hex i)) e h, omega arith)

braced_by : (b : ℕ) (s : List ℕ) (e : Escape) (v : Bool) → is_hex b ≡ v → braced_escape (b ∷ s) ≡ Some e
    → point_escape 4 (hex b) s ≡ Some e
unfolding braced_escape
braced_by b s e true p h = rw p at h
braced_by b s e false p h = let f : None ≡ Some e = rw p at h in cc

braced_size : (s : List ℕ) (e : Escape) → braced_escape s ≡ Some e → Sized 5 (3 + length s) e
unfolding braced_escape
braced_size [] e h = cc
braced_size (b ∷ s) e h =
    let n : Sized (4 + 1) (4 + length s) e = point_size 4 (hex b) s e (braced_by b s e (is_hex b) refl h) in
    let low : 4 + 1 ≤ e.size = n.0 in
    let high : e.size ≤ 4 + length s = n.1 in
    (omega arith, omega arith)

unicode_size_by : (b : ℕ) (s : List ℕ) (e : Escape) (v : Bool) → (b == 123) ≡ v → unicode_escape (b ∷ s) ≡ Some e
    → Sized 5 (2 + length (b ∷ s)) e
unfolding unicode_escape
unicode_size_by b s e true p h =
    let n : Sized 5 (3 + length s) e = braced_size s e (rw p at h) in
    let high : e.size ≤ 3 + length s = n.1 in
    (n.0, omega arith)
unicode_size_by b s e false p h =
    let n : (e.size ≡ 6) × (4 ≤ length (b ∷ s)) = four_size (b ∷ s) e (rw p at h) in
    let six : e.size ≡ 6 = n.0 in
    let long : 4 ≤ length (b ∷ s) = n.1 in
    (omega arith, omega arith)

unicode_size : (s : List ℕ) (e : Escape) → unicode_escape s ≡ Some e → Sized 5 (2 + length s) e
unfolding unicode_escape
unicode_size [] e h = cc
unicode_size (b ∷ s) e h = unicode_size_by b s e (b == 123) refl h

-- `\u` stands in front of what is left of it
escape_by : (a b : ℕ) (s : List ℕ) (e : Escape) (u v : Bool) → (a == 92) ≡ u → (b == 117) ≡ v
    → escape_at (a ∷ b ∷ s) ≡ Some e → (a ≡ 92) × (unicode_escape s ≡ Some e)
unfolding escape_at
escape_by a b s e true true p q h = (eqb-true a 92 p, rw (p, q) at h)
escape_by a b s e true false p q h = let f : None ≡ Some e = rw (p, q) at h in cc
escape_by a b s e false v p q h = let f : None ≡ Some e = rw p at h in cc

escape_is : (a b : ℕ) (s : List ℕ) (e : Escape) → escape_at (a ∷ b ∷ s) ≡ Some e
    → (a ≡ 92) × (unicode_escape s ≡ Some e)
escape_is a b s e h = escape_by a b s e (a == 92) (b == 117) refl refl h

escape_size : (s : List ℕ) (e : Escape) → escape_at s ≡ Some e → Sized 5 (length s) e
unfolding escape_at
escape_size [] e h = cc
escape_size (a ∷ []) e h = cc
escape_size (a ∷ b ∷ s) e h =
    let n : Sized 5 (2 + length s) e = unicode_size s e (escape_is a b s e h).1 in
    let high : e.size ≤ 2 + length s = n.1 in
    (n.0, omega arith)

-- ---- an escape before other text
point_local_by : (size value b : ℕ) (s t : List ℕ) (e : Escape) (v w : Bool) → (b == 125) ≡ v
    → (is_hex b && nat_le (value * 16 + hex b) 0x10FFFF) ≡ w
    → (point_escape (size + 1) (value * 16 + hex b) s ≡ Some e
    → point_escape (size + 1) (value * 16 + hex b) t ≡ Some e)
    → point_escape size value (b ∷ s) ≡ Some e → point_escape size value (b ∷ t) ≡ Some e
unfolding point_escape
point_local_by size value b s t e true w p q m h =
    let f : Some (made value (size + 1)) ≡ Some e = rw p at h in rw p f
point_local_by size value b s t e false true p q m h = rw (p, q) (m (rw (p, q) at h))
point_local_by size value b s t e false false p q m h =
    let f : None ≡ Some e = rw (p, q) at h in cc

point_local : (size value : ℕ) (u x y : List ℕ) (e : Escape) → point_escape size value (u ++ x) ≡ Some e
    → e.size ≡ size + length u → point_escape size value (u ++ y) ≡ Some e
point_local size value [] x y e h l =
    let n : size + 1 ≤ e.size = (point_size size value x e h).0 in
    let long : e.size ≡ size + 0 = l in absurd (omega arith)
point_local size value (b ∷ u) x y e h l =
    point_local_by size value b (u ++ x) (u ++ y) e (b == 125) (is_hex b && nat_le (value * 16 + hex b) 0x10FFFF) refl
    refl (λ f. point_local (size + 1) (value * 16 + hex b) u x y e f
    (let q : size + length (b ∷ u) ≡ size + 1 + length u = omega arith in l ∙ q)) h

four_local : (u x y : List ℕ) (e : Escape) → four_escape (u ++ x) ≡ Some e → e.size ≡ 2 + length u
    → four_escape (u ++ y) ≡ Some e
unfolding four_escape
four_local [] x y e h l = let n : e.size ≡ 6 = (four_size x e h).0 in absurd (omega arith)
four_local (b ∷ []) x y e h l = let n : e.size ≡ 6 = (four_size (b ∷ x) e h).0 in absurd (omega arith)
four_local (b ∷ c ∷ []) x y e h l = let n : e.size ≡ 6 = (four_size (b ∷ c ∷ x) e h).0 in absurd (omega arith)
four_local (b ∷ c ∷ d ∷ []) x y e h l = let n : e.size ≡ 6 = (four_size (b ∷ c ∷ d ∷ x) e h).0 in absurd (omega arith)
four_local (b ∷ c ∷ d ∷ f ∷ u) x y e h l = h

braced_back : (b : ℕ) (s : List ℕ) (e : Escape) (v : Bool) → is_hex b ≡ v → v ≡ true
    → point_escape 4 (hex b) s ≡ Some e → braced_escape (b ∷ s) ≡ Some e
unfolding braced_escape
braced_back b s e true p t h = rw p h
braced_back b s e false p t h = cc

braced_hex : (b : ℕ) (s : List ℕ) (e : Escape) (v : Bool) → is_hex b ≡ v → braced_escape (b ∷ s) ≡ Some e → v ≡ true
unfolding braced_escape
braced_hex b s e true p h = refl
braced_hex b s e false p h = let f : None ≡ Some e = rw p at h in cc

braced_local : (u x y : List ℕ) (e : Escape) → braced_escape (u ++ x) ≡ Some e → e.size ≡ 3 + length u
    → braced_escape (u ++ y) ≡ Some e
braced_local [] x y e h l = let n : 5 ≤ e.size = (braced_size x e h).0 in absurd (omega arith)
braced_local (b ∷ u) x y e h l =
    braced_back b (u ++ y) e (is_hex b) refl (braced_hex b (u ++ x) e (is_hex b) refl h)
    (point_local 4 (hex b) u x y e (braced_by b (u ++ x) e (is_hex b) refl h)
    (let q : 3 + length (b ∷ u) ≡ 4 + length u = omega arith in l ∙ q))

unicode_local_by : (b : ℕ) (u x y : List ℕ) (e : Escape) (v : Bool) → (b == 123) ≡ v
    → unicode_escape (b ∷ (u ++ x)) ≡ Some e → e.size ≡ 2 + length (b ∷ u) → unicode_escape (b ∷ (u ++ y)) ≡ Some e
unfolding unicode_escape
unicode_local_by b u x y e true p h l =
    let q : 2 + length (b ∷ u) ≡ 3 + length u = omega arith in
    rw p (braced_local u x y e (rw p at h) (l ∙ q))
unicode_local_by b u x y e false p h l = rw p (four_local (b ∷ u) x y e (rw p at h) l)

unicode_local : (u x y : List ℕ) (e : Escape) → unicode_escape (u ++ x) ≡ Some e → e.size ≡ 2 + length u
    → unicode_escape (u ++ y) ≡ Some e
unicode_local [] x y e h l = let n : 5 ≤ e.size = (unicode_size x e h).0 in absurd (omega arith)
unicode_local (b ∷ u) x y e h l = unicode_local_by b u x y e (b == 123) refl h l

escape_back : (a b : ℕ) (s t : List ℕ) (e : Escape) (u v : Bool) → (a == 92) ≡ u → (b == 117) ≡ v
    → escape_at (a ∷ b ∷ s) ≡ Some e → unicode_escape t ≡ Some e → escape_at (a ∷ b ∷ t) ≡ Some e
unfolding escape_at
escape_back a b s t e true true p q h g = rw (p, q) g
escape_back a b s t e true false p q h g = let f : None ≡ Some e = rw (p, q) at h in cc
escape_back a b s t e false v p q h g = let f : None ≡ Some e = rw p at h in cc

escape_local : (u x y : List ℕ) (e : Escape) → escape_at (u ++ x) ≡ Some e → e.size ≡ length u
    → escape_at (u ++ y) ≡ Some e
escape_local [] x y e h l = let n : 5 ≤ e.size = (escape_size x e h).0 in absurd (omega arith)
escape_local (a ∷ []) x y e h l = let n : 5 ≤ e.size = (escape_size (a ∷ x) e h).0 in absurd (omega arith)
escape_local (a ∷ b ∷ u) x y e h l =
    escape_back a b (u ++ x) (u ++ y) e (a == 92) (b == 117) refl refl h
    (unicode_local u x y e (escape_is a b (u ++ x) e h).1
    (let q : length (a ∷ b ∷ u) ≡ 2 + length u = omega arith in l ∙ q))

-- ---- an escape before more text
point_more : (size value : ℕ) (s x : List ℕ) (e : Escape) → point_escape size value s ≡ Some e
    → point_escape size value (s ++ x) ≡ Some e
unfolding point_escape
point_more size value [] x e h = cc
point_more size value (b ∷ s) x e h =
    point_local_by size value b s (s ++ x) e (b == 125) (is_hex b && nat_le (value * 16 + hex b) 0x10FFFF) refl refl
    (point_more (size + 1) (value * 16 + hex b) s x e) h

four_more : (s x : List ℕ) (e : Escape) → four_escape s ≡ Some e → four_escape (s ++ x) ≡ Some e
unfolding four_escape
four_more [] x e h = cc
four_more (b ∷ []) x e h = cc
four_more (b ∷ c ∷ []) x e h = cc
four_more (b ∷ c ∷ d ∷ []) x e h = cc
four_more (b ∷ c ∷ d ∷ f ∷ s) x e h = h

braced_more : (s x : List ℕ) (e : Escape) → braced_escape s ≡ Some e → braced_escape (s ++ x) ≡ Some e
unfolding braced_escape
braced_more [] x e h = cc
braced_more (b ∷ s) x e h =
    braced_back b (s ++ x) e (is_hex b) refl (braced_hex b s e (is_hex b) refl h)
    (point_more 4 (hex b) s x e (braced_by b s e (is_hex b) refl h))

unicode_more_by : (b : ℕ) (s x : List ℕ) (e : Escape) (v : Bool) → (b == 123) ≡ v → unicode_escape (b ∷ s) ≡ Some e
    → unicode_escape (b ∷ (s ++ x)) ≡ Some e
unfolding unicode_escape
unicode_more_by b s x e true p h = rw p (braced_more s x e (rw p at h))
unicode_more_by b s x e false p h = rw p (four_more (b ∷ s) x e (rw p at h))

unicode_more : (s x : List ℕ) (e : Escape) → unicode_escape s ≡ Some e → unicode_escape (s ++ x) ≡ Some e
unfolding unicode_escape
unicode_more [] x e h = cc
unicode_more (b ∷ s) x e h = unicode_more_by b s x e (b == 123) refl h

escape_more : (s x : List ℕ) (e : Escape) → escape_at s ≡ Some e → escape_at (s ++ x) ≡ Some e
unfolding escape_at
escape_more [] x e h = cc
escape_more (a ∷ []) x e h = cc
escape_more (a ∷ b ∷ s) x e h =
    escape_back a b s (s ++ x) e (a == 92) (b == 117) refl refl h (unicode_more s x e (escape_is a b s e h).1)

-- ---- by its character
-- an escape of this size whose character passes
record Passed (p : ℕ → Bool) (o : Option Escape) (n : ℕ) : Type 0 where
  escape : Escape
  is : o ≡ Some escape
  passes : p escape.code ≡ true
  long : escape.size ≡ n

passed_by : (p : ℕ → Bool) (e : Escape) (n : ℕ) (v : Bool) → p e.code ≡ v → (if v then e.size else 0) ≡ suc n
    → Passed p (Some e) (suc n)
passed_by p e n true q h = record { escape = e; is = refl; passes = q; long = h }
passed_by p e n false q h = absurd (omega arith)

passed : (p : ℕ → Bool) (o : Option Escape) (n : ℕ) → size_if p o ≡ suc n → Passed p o (suc n)
unfolding size_if
passed p None n h = absurd (omega arith)
passed p (Some e) n h = passed_by p e n (p e.code) refl h

passed_back : (p : ℕ → Bool) (o : Option Escape) (e : Escape) → o ≡ Some e → p e.code ≡ true → size_if p o ≡ e.size
unfolding size_if
passed_back p o e h q = rw h (rw q refl)

local_by : (p : ℕ → Bool) (u x y : List ℕ) (n : ℕ) → length u ≡ suc n → Passed p (escape_at (u ++ x)) (suc n)
    → size_if p (escape_at (u ++ y)) ≡ length u
local_by p u x y n l q =
    let long : q.escape.size ≡ length u = q.long ∙ sym l in
    passed_back p (escape_at (u ++ y)) q.escape (escape_local u x y q.escape q.is long) q.passes ∙ long

sized_local : (p : ℕ → Bool) (a : ℕ) (u x y : List ℕ) → size_if p (escape_at (a ∷ (u ++ x))) ≡ length (a ∷ u)
    → size_if p (escape_at (a ∷ (u ++ y))) ≡ length (a ∷ u)
sized_local p a u x y e =
    local_by p (a ∷ u) x y (length u) refl (passed p (escape_at (a ∷ (u ++ x))) (length u) e)

sized_more : (p : ℕ → Bool) (s x : List ℕ) (n : ℕ) → size_if p (escape_at s) ≡ suc n
    → size_if p (escape_at (s ++ x)) ≡ suc n
sized_more p s x n e =
    let q : Passed p (escape_at s) (suc n) = passed p (escape_at s) n e in
    passed_back p (escape_at (s ++ x)) q.escape (escape_more s x q.escape q.is) q.passes ∙ q.long

sized_within_by : (p : ℕ → Bool) (s : List ℕ) (n : ℕ) → size_if p (escape_at s) ≡ n → n ≤ length s
sized_within_by p s zero e = omega arith
sized_within_by p s (suc n) e =
    let q : Passed p (escape_at s) (suc n) = passed p (escape_at s) n e in
    let high : q.escape.size ≤ length s = (escape_size s q.escape q.is).1 in
    let long : q.escape.size ≡ suc n = q.long in omega arith

begins_by : (s : List ℕ) (a : ℕ) (t : List ℕ) (e : Escape) → s ≡ a ∷ t → escape_at s ≡ Some e → a ≡ 92
unfolding escape_at
begins_by [] a t e w h = cc
begins_by (b ∷ []) a t e w h = cc
begins_by (b ∷ c ∷ s) a t e w h =
    let same : b ≡ 92 = (escape_is b c s e h).0 in
    let heads : b ≡ a = cc in sym heads ∙ same

sized_begins : (p : ℕ → Bool) (a : ℕ) (t : List ℕ) (n : ℕ) → size_if p (escape_at (a ∷ t)) ≡ suc n → a ≡ 92
sized_begins p a t n e =
    let q : Passed p (escape_at (a ∷ t)) (suc n) = passed p (escape_at (a ∷ t)) n e in
    begins_by (a ∷ t) a t q.escape refl q.is

pub part_local : (a : ℕ) (u x y : List ℕ) → escaped_part (a ∷ (u ++ x)) ≡ length (a ∷ u)
    → escaped_part (a ∷ (u ++ y)) ≡ length (a ∷ u)
unfolding escaped_part
part_local a u x y e = sized_local is_name_part a u x y e

pub part_within : (s : List ℕ) → escaped_part s ≤ length s
unfolding escaped_part
part_within s = sized_within_by is_name_part s (size_if is_name_part (escape_at s)) refl

pub start_more : (s x : List ℕ) (n : ℕ) → escaped_start s ≡ suc n → escaped_start (s ++ x) ≡ suc n
unfolding escaped_start
start_more s x n e = sized_more is_name_start s x n e

pub start_begins : (a : ℕ) (t : List ℕ) (n : ℕ) → escaped_start (a ∷ t) ≡ suc n → a ≡ 92
unfolding escaped_start
start_begins a t n e = sized_begins is_name_start a t n e

-- what may begin a word may go on in one
start_part_by : (c : ℕ) → is_name_start c ≡ true → is_name_part c ≡ true
unfolding is_name_part
start_part_by c e = rw e refl

pub start_part : (s : List ℕ) (n : ℕ) → escaped_start s ≡ suc n → escaped_part s ≡ suc n
unfolding escaped_start escaped_part
start_part s n e =
    let q : Passed is_name_start (escape_at s) (suc n) = passed is_name_start (escape_at s) n e in
    passed_back is_name_part (escape_at s) q.escape q.is (start_part_by q.escape.code q.passes) ∙ q.long

-- a part at the front of a text that the start of a word begins is that start
pub part_start : (s x : List ℕ) (m n : ℕ) → escaped_part s ≡ suc m → escaped_start (s ++ x) ≡ suc n
    → escaped_start s ≡ suc m
unfolding escaped_start escaped_part
part_start s x m n e f =
    let q : Passed is_name_part (escape_at s) (suc m) = passed is_name_part (escape_at s) m e in
    let r : Passed is_name_start (escape_at (s ++ x)) (suc n) = passed is_name_start (escape_at (s ++ x)) n f in
    let more : escape_at (s ++ x) ≡ Some q.escape = escape_more s x q.escape q.is in
    let both : Some q.escape ≡ Some r.escape = sym more ∙ r.is in
    let same : q.escape ≡ r.escape = cc in
    let starts : is_name_start q.escape.code ≡ true =
    ap (λ (v : Escape). is_name_start v.code) same ∙ r.passes in
    passed_back is_name_start (escape_at s) q.escape q.is starts ∙ q.long
