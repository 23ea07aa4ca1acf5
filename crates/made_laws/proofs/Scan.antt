-- What stands between two double quotes of a module's text.
use Rattle.std.proofs.Common.{◌≡◌, ◌≢◌, ◌∙◌, refl, sym, ap, ℕ, List, [], ◌∷◌, ◌++◌, append-nil, arith}

-- ---- bytes of a text, one by one

abbrev pub Each : (ℕ → Type 0) → List ℕ → Type 0
Each Q [] = Unit {0}
Each Q (b ∷ rest) = Q b × Each Q rest

pub each_append : (Q : ℕ → Type 0) (xs ys : List ℕ) → Each Q xs → Each Q ys → Each Q (xs ++ ys)
each_append Q [] ys h k = k
each_append Q (x ∷ xs) ys h k = (h.0, each_append Q xs ys h.1 k)

-- no double quote
abbrev pub IsFree : ℕ → Type 0
IsFree b = b ≢ 34

-- neither that nor a line feed
abbrev pub IsInner : ℕ → Type 0
IsInner b = (b ≢ 34) × (b ≢ 10)

pub inner_free : (xs : List ℕ) → Each IsInner xs → Each IsFree xs
inner_free [] h = tt
inner_free (x ∷ xs) h = (h.0.0, inner_free xs h.1)

-- ---- what stands between two quotes

pub record Occurs (text value : List ℕ) : Type 0 where
  pub before : List ℕ
  pub after : List ℕ
  pub whole : text ≡ before ++ 34 ∷ (value ++ 34 ∷ after)

pub head_is : {a b : ℕ} {xs ys : List ℕ} → a ∷ xs ≡ b ∷ ys → a ≡ b
head_is e = cc

pub tail_is : {a b : ℕ} {xs ys : List ℕ} → a ∷ xs ≡ b ∷ ys → xs ≡ ys
tail_is e = cc

-- a front without quotes lies before the quote
record Front (front before text back : List ℕ) : Type 0 where
  rest : List ℕ
  is : before ≡ front ++ rest
  back_is : rest ++ 34 ∷ text ≡ back

front_of : (front before text back : List ℕ) → Each IsFree front → before ++ 34 ∷ text ≡ front ++ back
    → Front front before text back
front_of [] before text back h e = record { rest = before; is = refl; back_is = e }
front_of (x ∷ front) [] text back h e = absurd (h.0 (sym (head_is e)))
front_of (x ∷ front) (b ∷ before) text back h e =
    let more = front_of front before text back h.1 (tail_is e) in
    record {
      rest = more.rest;
      is = ap (λ (y : ℕ). y ∷ before) (head_is e) ∙ ap (λ (l : List ℕ). x ∷ l) more.is;
      back_is = more.back_is;
    }

-- both run up to the first quote
same_run : (v w s t : List ℕ) → Each IsFree v → Each IsFree w → v ++ 34 ∷ s ≡ w ++ 34 ∷ t → v ≡ w
same_run [] [] s t h k e = refl
same_run [] (y ∷ w) s t h k e = absurd (k.0 (sym (head_is e)))
same_run (x ∷ v) [] s t h k e = absurd (h.0 (head_is e))
same_run (x ∷ v) (y ∷ w) s t h k e =
    ap (λ (b : ℕ). b ∷ v) (head_is e) ∙ ap (λ (l : List ℕ). y ∷ l) (same_run v w s t h.1 k.1 (tail_is e))

-- a literal, what stands behind its second quote up to another one, or later
pub data Where (literal rest value : List ℕ) : Type 0 where
  here : value ≡ literal → Where literal rest value
  behind : (s : List ℕ) → rest ≡ value ++ 34 ∷ s → Where literal rest value
  later : Occurs rest value → Where literal rest value

pub where_it_is : (front literal rest value : List ℕ) → Each IsFree front → Each IsFree literal → Each IsFree value
    → Occurs (front ++ 34 ∷ (literal ++ 34 ∷ rest)) value → Where literal rest value
where_it_is front literal rest value f l v o =
    first (front_of front o.before (value ++ 34 ∷ o.after) (34 ∷ (literal ++ 34 ∷ rest)) f (sym o.whole))
  where
    third : (p : List ℕ) → p ++ 34 ∷ (value ++ 34 ∷ o.after) ≡ 34 ∷ rest → Where literal rest value
    third [] e = behind o.after (sym (tail_is e))
    third (b ∷ p) e = later (record { before = p; after = o.after; whole = sym (tail_is e) })

    second : (p : List ℕ) → p ++ 34 ∷ (value ++ 34 ∷ o.after) ≡ 34 ∷ (literal ++ 34 ∷ rest) → Where literal rest value
    second [] e = here (same_run value literal o.after rest v l (tail_is e))
    second (b ∷ p) e =
        let more = front_of literal p (value ++ 34 ∷ o.after) (34 ∷ rest) l (tail_is e) in third more.rest more.back_is

    first : Front front o.before (value ++ 34 ∷ o.after) (34 ∷ (literal ++ 34 ∷ rest)) → Where literal rest value
    first more = second more.rest more.back_is

-- ---- a line with one literal: behind it stands a line's end

pub ends_semicolon : (value s r : List ℕ) → Each IsInner value → 59 ∷ 10 ∷ r ≡ value ++ 34 ∷ s → ⊥
ends_semicolon [] s r h e = let bad : 59 ≡ 34 = head_is e in omega (arith, bad)
ends_semicolon (a ∷ []) s r h e = let bad : 10 ≡ 34 = head_is (tail_is e) in omega (arith, bad)
ends_semicolon (a ∷ b ∷ value) s r h e = h.1.0.1 (sym (head_is (tail_is e)))

pub ends_call : (value s r : List ℕ) → Each IsInner value → 41 ∷ 59 ∷ 10 ∷ r ≡ value ++ 34 ∷ s → ⊥
ends_call [] s r h e = let bad : 41 ≡ 34 = head_is e in omega (arith, bad)
ends_call (a ∷ value) s r h e = ends_semicolon value s r h.1 (tail_is e)

pub no_more : (text value : List ℕ) → Each IsFree text → Occurs text value → ⊥
no_more text value free o =
    over (front_of text o.before (value ++ 34 ∷ o.after) [] free (sym o.whole ∙ sym (append-nil text)))
  where
    empty : (p x : List ℕ) → p ++ 34 ∷ x ≡ [] → ⊥
    empty [] x e = cc
    empty (b ∷ p) x e = cc

    over : Front text o.before (value ++ 34 ∷ o.after) [] → ⊥
    over more = empty more.rest (value ++ 34 ∷ o.after) more.back_is
