-- Lists of parts: written one after the other, and read again.
use Rattle.std.specs.Prelude.{ℕ, Bool, true, false, List, [], ◌∷◌, ◌++◌, Option, Some, None, option_map, map, IfSome}
use Rattle.std.proofs.Common.{◌≡◌, refl, sym, ap, subst, ◌∙◌}
use Rattle.es_token.specs.declared.token.Token.{Token}
use Rattle.es_lowering.specs.Value.{Value, nil, more, given, as_group, turns, option_list}
use Rattle.es_lowering.specs.Lowering.{packed}
use Rattle.es_changed.specs.declared.entry.ChangedEntry.{ChangedEntry}
use Rattle.es_changed.specs.Formed.{each_part}
use Rattle.es_changed.specs.Shape.{Writes}
use Rattle.es_changed.proofs.Written.{nothing_written, both_written}
use Rattle.dts_rules.specs.Rules.{some}
use Rattle.dts_draft.specs.Written.{IfThere, Puts, PutsAll, Gives}

-- parts in a row are a group
pub as_packed : (vs : List Value) → as_group (packed vs) ≡ packed vs
as_packed [] = refl
as_packed (v ∷ vs) = refl

mapped_both : {A B : Type 0} (f : A → B) (them bs : List A) → map f (them ++ bs) ≡ map f them ++ map f bs
mapped_both f [] bs = refl
mapped_both f (a ∷ them) bs = ap (λ rest. f a ∷ rest) (mapped_both f them bs)

-- ---- read again
abbrev first_one : {A : Type 0} → A → List A → A
first_one other (a ∷ them) = a
first_one other [] = other

abbrev behind_one : {A : Type 0} → List A → List A
behind_one (a ∷ them) = them
behind_one [] = []

-- side by side
pub read_each : {A : Type 0} (role : Value → Option A) (vs : List Value) (them : List A) → map role vs ≡ map Some them
    → each_part role (packed vs) ≡ Some them
read_each role [] [] e = refl
read_each role [] (a ∷ them) e = let bad : ⊥ = cc in absurd bad
read_each role (v ∷ vs) [] e = let bad : ⊥ = cc in absurd bad
read_each role (v ∷ vs) (a ∷ them) e =
    ap (λ o. given o (λ b. given (each_part role (packed vs)) (λ rest. Some (b ∷ rest)))) (ap (first_one None) e)
    ∙ ap (λ o. given o (λ rest. Some (a ∷ rest))) (read_each role vs them (ap behind_one e))

-- in turns
pub read_turns : {A : Type 0} (one : Value → Option A) (vs : List Value) (them : List A)
    → map (λ v. one (as_group v)) vs ≡ map Some them → turns one (packed vs) ≡ Some them
read_turns one [] [] e = refl
read_turns one [] (a ∷ them) e = let bad : ⊥ = cc in absurd bad
read_turns one (v ∷ vs) [] e = let bad : ⊥ = cc in absurd bad
read_turns one (v ∷ vs) (a ∷ them) e =
    ap (λ o. given o (λ b. given (turns one (packed vs)) (λ rest. Some (b ∷ rest)))) (ap (first_one None) e)
    ∙ ap (λ o. given o (λ rest. Some (a ∷ rest))) (read_turns one vs them (ap behind_one e))

-- ---- one after the other
module _ (x : List ℕ) (ts : List Token) where
  pub puts_none : {A : Type 0} (role : Value → Option A) (old : List ChangedEntry) → PutsAll x ts role old old []
  puts_none role old = record { values = []; writes = nothing_written x ts old; are = refl }

  pub puts_both : {A : Type 0} (role : Value → Option A) (old mid new : List ChangedEntry) (them bs : List A)
      → PutsAll x ts role old mid them → PutsAll x ts role mid new bs → PutsAll x ts role old new (them ++ bs)
  puts_both role old mid new them bs p q = record {
    values = p.values ++ q.values;
    writes = both_written x ts old mid new p.values q.values p.writes q.writes;
    are = mapped_both role p.values q.values
        ∙ (ap (λ os. os ++ map role q.values) p.are
        ∙ (ap (λ os. map Some them ++ os) q.are ∙ sym (mapped_both Some them bs)));
  }

  -- what may be there, as a list
  pub given_listed : {A : Type 0} (role : Value → Option A) (old new : List ChangedEntry) (wrote : Bool) (o : Option A)
      → Gives x ts role old new wrote o → PutsAll x ts role old new (option_list o)
  given_listed role old new wrote (Some a) g = record {
    values = g.1.value ∷ [];
    writes = g.1.writes;
    are = ap (λ o. o ∷ []) g.1.is;
  }
  given_listed role old new wrote None g = record { values = []; writes = g.1; are = refl }

  some_first : {A : Type 0} (o : Option A) (os : List (Option A)) → option_list o ++ some os ≡ some (o ∷ os)
  some_first (Some a) os = refl
  some_first None os = refl

  -- what stands in the turns is written, each where it has something there
  abbrev pub Each : {A B : Type 0} → (Value → Option B) → (A → Option B) → List ChangedEntry → List ChangedEntry
      → List A → Type 0
  Each role f old new them = PutsAll x ts role old new (some (map f them))

  pub each_more : {A B : Type 0} (role : Value → Option B) (f : A → Option B) (old mid new : List ChangedEntry)
      (o : Option A) (os : Option (List A))
      → IfThere (λ a. PutsAll x ts role old mid (option_list (f a))) o → IfThere (Each role f mid new) os
      → IfThere (Each role f old new) (given o (λ a. given os (λ rest. Some (a ∷ rest))))
  each_more role f old mid new None os p q = record { is = tt }
  each_more role f old mid new (Some a) None p q = record { is = tt }
  each_more role f old mid new (Some a) (Some them) p q = record {
    is = subst (λ bs. PutsAll x ts role old new bs) (some_first (f a) (map f them))
        (puts_both role old mid new (option_list (f a)) (some (map f them)) p.is q.is);
  }

  -- what is left leads to all, whatever it is
  pub record TurnsLeft {A B : Type 0} (role : Value → Option B) (f : A → Option B) (one : Value → Option A)
      (start now : List ChangedEntry) (all left : Value) : Type 0 where
    pub leads : (new : List ChangedEntry) → IfThere (Each role f now new) (turns one left)
        → IfThere (Each role f start new) (turns one all)

  pub turns_all : {A B : Type 0} (role : Value → Option B) (f : A → Option B) (one : Value → Option A)
      (start : List ChangedEntry) (all : Value) → TurnsLeft role f one start start all all
  turns_all role f one start all = record { leads = λ new h. h }

  pub turns_next : {A B : Type 0} (role : Value → Option B) (f : A → Option B) (one : Value → Option A)
      (start now next : List ChangedEntry) (all left v rest : Value) → left ≡ more v rest
      → TurnsLeft role f one start now all left
      → IfThere (λ a. PutsAll x ts role now next (option_list (f a))) (one (as_group v))
      → TurnsLeft role f one start next all rest
  turns_next role f one start now next all left v rest e before p = record {
    leads = λ new h.
        before.leads new (subst (λ (w : Value). IfThere (Each role f now new) (turns one w)) (sym e)
        (each_more role f now next new (one (as_group v)) (turns one rest) p h));
  }

  pub turns_done : {A B : Type 0} (role : Value → Option B) (f : A → Option B) (one : Value → Option A)
      (start now : List ChangedEntry) (all left : Value) → left ≡ nil → TurnsLeft role f one start now all left
      → IfThere (Each role f start now) (turns one all)
  turns_done role f one start now all left e before =
      before.leads now (subst (λ (w : Value). IfThere (Each role f now now) (turns one w)) (sym e)
      (record { is = puts_none role now }))
