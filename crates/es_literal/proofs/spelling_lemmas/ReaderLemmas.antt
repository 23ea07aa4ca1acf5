-- Readers of parts: what stands behind the part at the front of a text, and that no longer part stands there.
use Rattle.std.proofs.Common.{◌≡◌, ℕ, ◌≤◌, List, [], ◌∷◌, ◌++◌, length, refl, sym, ◌∙◌, ap, subst, arith, append_assoc, length-append}

pub record Cut (P : List ℕ → Type 0) (t b : List ℕ) : Type 0 where
  pub part : List ℕ
  pub whole : t ≡ part ++ b
  pub is : P part

pub record Reader (P : List ℕ → Type 0) (g : List ℕ → List ℕ) : Type 0 where
  pub sound : (t : List ℕ) → Cut P t (g t)
  pub reach : (u t : List ℕ) → P u → length (g (u ++ t)) ≤ length t

-- what is left is no longer than the text
pub shrinks : (P : List ℕ → Type 0) (g : List ℕ → List ℕ) → Reader P g → (t : List ℕ) → length (g t) ≤ length t
shrinks P g r t =
    let c : Cut P t (g t) = r.sound t in
    let size : length t ≡ length (c.part ++ g t) = ap length c.whole in
    omega (arith, length-append c.part (g t))

-- one part behind another
pub record Both (P Q : List ℕ → Type 0) (s : List ℕ) : Type 0 where
  pub first : List ℕ
  pub second : List ℕ
  pub whole : s ≡ first ++ second
  pub one : P first
  pub other : Q second

-- the first part ends where the second one begins
abbrev pub Ends : (P Q : List ℕ → Type 0) (g : List ℕ → List ℕ) → Type 0
Ends P Q g = (u : List ℕ) (b : ℕ) (q t : List ℕ) → P u → Q (b ∷ q) → g (u ++ (b ∷ (q ++ t))) ≡ b ∷ (q ++ t)

both_reach : (P Q : List ℕ → Type 0) (g h : List ℕ → List ℕ) → Reader P g → Reader Q h → Ends P Q g
    → (u q t : List ℕ) → P u → Q q → length (h (g ((u ++ q) ++ t))) ≤ length t
both_reach P Q g h r v e u [] t p o =
    let same : g ((u ++ []) ++ t) ≡ g (u ++ t) = ap g (append_assoc u [] t) in
    let one : length (h (g (u ++ t))) ≤ length (g (u ++ t)) = shrinks Q h v (g (u ++ t)) in
    let two : length (g (u ++ t)) ≤ length t = r.reach u t p in
    subst (λ (w : List ℕ). length (h w) ≤ length t) (sym same) (omega arith)
both_reach P Q g h r v e u (b ∷ q) t p o =
    let same : g ((u ++ (b ∷ q)) ++ t) ≡ b ∷ (q ++ t) = ap g (append_assoc u (b ∷ q) t) ∙ e u b q t p o in
    subst (λ (w : List ℕ). length (h w) ≤ length t) (sym same) (v.reach (b ∷ q) t o)

both_sound : (P Q : List ℕ → Type 0) (g h : List ℕ → List ℕ) → Reader P g → Reader Q h → (t : List ℕ)
    → Cut (Both P Q) t (h (g t))
both_sound P Q g h r v t =
    let c : Cut P t (g t) = r.sound t in
    let d : Cut Q (g t) (h (g t)) = v.sound (g t) in
    record {
      part = c.part ++ d.part;
      whole = c.whole ∙ (ap (λ w. c.part ++ w) d.whole ∙ sym (append_assoc c.part d.part (h (g t))));
      is = record { first = c.part; second = d.part; whole = refl; one = c.is; other = d.is };
    }

pub both : (P Q : List ℕ → Type 0) (g h : List ℕ → List ℕ) → Reader P g → Reader Q h → Ends P Q g
    → Reader (Both P Q) (λ t. h (g t))
both P Q g h r v e = record {
  sound = λ t. both_sound P Q g h r v t;
  reach = λ u t b. subst (λ (w : List ℕ). length (h (g (w ++ t))) ≤ length t) (sym b.whole)
      (both_reach P Q g h r v e b.first b.second t b.one b.other);
}
