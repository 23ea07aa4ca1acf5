-- Equal parts make equal values.
use Rattle.std.specs.Prelude.{}
use Rattle.std.proofs.Common.{◌≡◌, ap, ◌∙◌}

pub same1 : {A Z : Type 0} (f : A → Z) {a a2 : A} → a2 ≡ a
    → f a2 ≡ f a
same1 f {a = a} {a2 = a2} ha =
    ap (λ v. f v) ha

pub same2 : {A B Z : Type 0} (f : A → B → Z) {a a2 : A} {b b2 : B} → a2 ≡ a → b2 ≡ b
    → f a2 b2 ≡ f a b
same2 f {a = a} {a2 = a2} {b = b} {b2 = b2} ha hb =
    ap (λ v. f v b2) ha ∙ (ap (λ v. f a v) hb)

pub same3 : {A B C Z : Type 0} (f : A → B → C → Z) {a a2 : A} {b b2 : B} {c c2 : C} → a2 ≡ a → b2 ≡ b → c2 ≡ c
    → f a2 b2 c2 ≡ f a b c
same3 f {a = a} {a2 = a2} {b = b} {b2 = b2} {c = c} {c2 = c2} ha hb hc =
    ap (λ v. f v b2 c2) ha ∙ (ap (λ v. f a v c2) hb ∙ (ap (λ v. f a b v) hc))

pub same4 : {A B C D Z : Type 0} (f : A → B → C → D → Z) {a a2 : A} {b b2 : B} {c c2 : C} {d d2 : D} → a2 ≡ a
    → b2 ≡ b → c2 ≡ c → d2 ≡ d
    → f a2 b2 c2 d2 ≡ f a b c d
same4 f {a = a} {a2 = a2} {b = b} {b2 = b2} {c = c} {c2 = c2} {d = d} {d2 = d2} ha hb hc hd =
    ap (λ v. f v b2 c2 d2) ha ∙ (ap (λ v. f a v c2 d2) hb ∙ (ap (λ v. f a b v d2) hc ∙ (ap (λ v. f a b c v) hd)))

pub same5 : {A B C D E Z : Type 0} (f : A → B → C → D → E → Z) {a a2 : A} {b b2 : B} {c c2 : C} {d d2 : D}
    {e e2 : E} → a2 ≡ a → b2 ≡ b → c2 ≡ c → d2 ≡ d → e2 ≡ e
    → f a2 b2 c2 d2 e2 ≡ f a b c d e
same5 f {a = a} {a2 = a2} {b = b} {b2 = b2} {c = c} {c2 = c2} {d = d} {d2 = d2} {e = e} {e2 = e2} ha hb hc hd he =
    ap (λ v. f v b2 c2 d2 e2) ha ∙ (ap (λ v. f a v c2 d2 e2) hb ∙
    (ap (λ v. f a b v d2 e2) hc ∙ (ap (λ v. f a b c v e2) hd ∙ (ap (λ v. f a b c d v) he))))

pub same6 : {A B C D E G Z : Type 0} (f : A → B → C → D → E → G → Z) {a a2 : A} {b b2 : B} {c c2 : C} {d d2 : D}
    {e e2 : E} {g g2 : G} → a2 ≡ a → b2 ≡ b → c2 ≡ c → d2 ≡ d → e2 ≡ e → g2 ≡ g
    → f a2 b2 c2 d2 e2 g2 ≡ f a b c d e g
same6 f {a = a} {a2 = a2} {b = b} {b2 = b2} {c = c} {c2 = c2} {d = d} {d2 = d2} {e = e} {e2 = e2} {g = g} {g2 = g2}
    ha hb hc hd he hg =
    ap (λ v. f v b2 c2 d2 e2 g2) ha ∙ (ap (λ v. f a v c2 d2 e2 g2) hb ∙
    (ap (λ v. f a b v d2 e2 g2) hc ∙ (ap (λ v. f a b c v e2 g2) hd ∙
    (ap (λ v. f a b c d v g2) he ∙ (ap (λ v. f a b c d e v) hg)))))

pub same7 : {A B C D E G H Z : Type 0} (f : A → B → C → D → E → G → H → Z) {a a2 : A} {b b2 : B} {c c2 : C}
    {d d2 : D} {e e2 : E} {g g2 : G} {h h2 : H} → a2 ≡ a → b2 ≡ b → c2 ≡ c → d2 ≡ d → e2 ≡ e → g2 ≡ g → h2 ≡ h
    → f a2 b2 c2 d2 e2 g2 h2 ≡ f a b c d e g h
same7 f {a = a} {a2 = a2} {b = b} {b2 = b2} {c = c} {c2 = c2} {d = d} {d2 = d2} {e = e} {e2 = e2} {g = g} {g2 = g2}
    {h = h} {h2 = h2} ha hb hc hd he hg hh =
    ap (λ v. f v b2 c2 d2 e2 g2 h2) ha ∙ (ap (λ v. f a v c2 d2 e2 g2 h2) hb ∙
    (ap (λ v. f a b v d2 e2 g2 h2) hc ∙ (ap (λ v. f a b c v e2 g2 h2) hd ∙
    (ap (λ v. f a b c d v g2 h2) he ∙ (ap (λ v. f a b c d e v h2) hg ∙ (ap (λ v. f a b c d e g v) hh))))))

pub same8 : {A B C D E G H I Z : Type 0} (f : A → B → C → D → E → G → H → I → Z) {a a2 : A} {b b2 : B} {c c2 : C}
    {d d2 : D} {e e2 : E} {g g2 : G} {h h2 : H} {i i2 : I} → a2 ≡ a → b2 ≡ b → c2 ≡ c → d2 ≡ d → e2 ≡ e → g2 ≡ g
    → h2 ≡ h → i2 ≡ i
    → f a2 b2 c2 d2 e2 g2 h2 i2 ≡ f a b c d e g h i
same8 f {a = a} {a2 = a2} {b = b} {b2 = b2} {c = c} {c2 = c2} {d = d} {d2 = d2} {e = e} {e2 = e2} {g = g} {g2 = g2}
    {h = h} {h2 = h2} {i = i} {i2 = i2} ha hb hc hd he hg hh hi =
    ap (λ v. f v b2 c2 d2 e2 g2 h2 i2) ha ∙ (ap (λ v. f a v c2 d2 e2 g2 h2 i2) hb ∙
    (ap (λ v. f a b v d2 e2 g2 h2 i2) hc ∙ (ap (λ v. f a b c v e2 g2 h2 i2) hd ∙
    (ap (λ v. f a b c d v g2 h2 i2) he ∙ (ap (λ v. f a b c d e v h2 i2) hg ∙
    (ap (λ v. f a b c d e g v i2) hh ∙ (ap (λ v. f a b c d e g h v) hi)))))))

pub same9 : {A B C D E G H I J Z : Type 0} (f : A → B → C → D → E → G → H → I → J → Z) {a a2 : A} {b b2 : B}
    {c c2 : C} {d d2 : D} {e e2 : E} {g g2 : G} {h h2 : H} {i i2 : I} {j j2 : J} → a2 ≡ a → b2 ≡ b → c2 ≡ c → d2 ≡ d
    → e2 ≡ e → g2 ≡ g → h2 ≡ h → i2 ≡ i → j2 ≡ j
    → f a2 b2 c2 d2 e2 g2 h2 i2 j2 ≡ f a b c d e g h i j
same9 f {a = a} {a2 = a2} {b = b} {b2 = b2} {c = c} {c2 = c2} {d = d} {d2 = d2} {e = e} {e2 = e2} {g = g} {g2 = g2}
    {h = h} {h2 = h2} {i = i} {i2 = i2} {j = j} {j2 = j2} ha hb hc hd he hg hh hi hj =
    ap (λ v. f v b2 c2 d2 e2 g2 h2 i2 j2) ha ∙ (ap (λ v. f a v c2 d2 e2 g2 h2 i2 j2) hb ∙
    (ap (λ v. f a b v d2 e2 g2 h2 i2 j2) hc ∙ (ap (λ v. f a b c v e2 g2 h2 i2 j2) hd ∙
    (ap (λ v. f a b c d v g2 h2 i2 j2) he ∙ (ap (λ v. f a b c d e v h2 i2 j2) hg ∙
    (ap (λ v. f a b c d e g v i2 j2) hh ∙ (ap (λ v. f a b c d e g h v j2) hi ∙
    (ap (λ v. f a b c d e g h i v) hj))))))))
