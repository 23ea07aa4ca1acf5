-- Parts in turns, each of which may make something, with what was found on the way.
use Rattle.std.specs.Prelude.{ℕ, List, [], ◌∷◌, ◌++◌, Option, Some, None, map, IfSome}
use Rattle.std.proofs.Common.{◌≡◌, refl, sym, ap, subst, ◌∙◌}
use Rattle.es_token.specs.declared.token.Token.{Token}
use Rattle.es_lowering.specs.Value.{Value, nil, more, given, as_group, turns}
use Rattle.es_changed.specs.declared.entry.ChangedEntry.{ChangedEntry}
use Rattle.dts_rules.specs.Rules.{State, after, in_turn, some}
use Rattle.dts_draft.specs.declared.draft.Draft.{Draft}
use Rattle.dts_draft.specs.Drafts.{state_of}
use Rattle.dts_draft.specs.Written.{IfThere, PutsAll}
use Rattle.dts_draft.proofs.Lists.{puts_none, puts_both}
use Rattle.dts_types.specs.Types.{Turned, InTurn}

both_state : {A B : Type 0} (f : A → State → Option B × State) (them others : List A) (s : State)
    → (in_turn f (them ++ others) s).1 ≡ (in_turn f others (in_turn f them s).1).1
both_state f [] others s = refl
both_state f (a ∷ them) others s = both_state f them others (f a s).1

some_more : {A : Type 0} (o : Option A) (os others : List (Option A)) (rest : List A) → some os ++ rest ≡ some others
    → some (o ∷ os) ++ rest ≡ some (o ∷ others)
some_more (Some a) os others rest e = ap (λ (l : List _). a ∷ l) e
some_more None os others rest e = e

some_joined : {A B : Type 0} (f : A → State → Option B × State) (them others : List A) (s : State)
    → some (in_turn f (them ++ others) s).0
    ≡ some (in_turn f them s).0 ++ some (in_turn f others (in_turn f them s).1).0
some_joined f [] others s = refl
some_joined f (a ∷ them) others s =
    sym (some_more (f a s).0 (in_turn f them (f a s).1).0 (in_turn f (them ++ others) (f a s).1).0
    (some (in_turn f others (in_turn f them (f a s).1).1).0) (sym (some_joined f them others (f a s).1)))

-- parts that show something, as the parts alone
pub in_turn_map : {A C B : Type 0} (g : A → C) (f : C → State → B × State) (them : List A) (s : State)
    → in_turn f (map g them) s ≡ in_turn (λ a. f (g a)) them s
in_turn_map g f [] s = refl
in_turn_map g f (a ∷ them) s =
    ap (λ p. after (λ bs. (f (g a) s).0 ∷ bs) p) (in_turn_map g f them (f (g a) s).1)

module _ (x : List ℕ) (ts : List Token) where
  some_both : {A : Type 0} (o : Option A) (os : List (Option A)) → some (o ∷ []) ++ some os ≡ some (o ∷ os)
  some_both (Some a) os = refl
  some_both None os = refl

  pub turn_none : {A B : Type 0} (role : Value → Option B) (f : A → State → Option B × State) (it : Draft)
      → InTurn x ts role f it it []
  turn_none role f it = record { state = refl; puts = puts_none x ts role it.row }

  turn_more : {A B : Type 0} (role : Value → Option B) (f : A → State → Option B × State) (old mid new : Draft)
      (o : Option A) (os : Option (List A)) → IfThere (Turned x ts role f old mid) o
      → IfThere (InTurn x ts role f mid new) os
      → IfThere (InTurn x ts role f old new) (given o (λ a. given os (λ rest. Some (a ∷ rest))))
  turn_more role f old mid new None os p q = record { is = tt }
  turn_more role f old mid new (Some a) None p q = record { is = tt }
  turn_more role f old mid new (Some a) (Some them) p q =
      let t : Turned x ts role f old mid a = p.is in
      let r : InTurn x ts role f mid new them = q.is in
      record {
        is = record {
          state = r.state ∙ ap (λ (s : State). (in_turn f them s).1) t.state;
          puts = subst (PutsAll x ts role old.row new.row)
              (ap (λ (s : State). some ((f a (state_of old)).0 ∷ []) ++ some (in_turn f them s).0) t.state
              ∙ some_both (f a (state_of old)).0 (in_turn f them (f a (state_of old)).1).0)
              (puts_both x ts role old.row mid.row new.row (some ((f a (state_of old)).0 ∷ []))
              (some (in_turn f them (state_of mid)).0) t.puts r.puts);
        };
      }

  -- what is left leads to all, whatever it is
  pub record TurnsLeft {A B : Type 0} (role : Value → Option B) (f : A → State → Option B × State)
      (one : Value → Option A) (start now : Draft) (all left : Value) : Type 0 where
    pub leads : (new : Draft) → IfThere (InTurn x ts role f now new) (turns one left)
        → IfThere (InTurn x ts role f start new) (turns one all)

  pub turns_all : {A B : Type 0} (role : Value → Option B) (f : A → State → Option B × State) (one : Value → Option A)
      (start : Draft) (all : Value) → TurnsLeft role f one start start all all
  turns_all role f one start all = record { leads = λ new h. h }

  pub turns_next : {A B : Type 0} (role : Value → Option B) (f : A → State → Option B × State) (one : Value → Option A)
      (start now next : Draft) (all left v rest : Value) → left ≡ more v rest → TurnsLeft role f one start now all left
      → IfThere (Turned x ts role f now next) (one (as_group v)) → TurnsLeft role f one start next all rest
  turns_next role f one start now next all left v rest e before p = record {
    leads = λ new h.
        before.leads new (subst (λ (w : Value). IfThere (InTurn x ts role f now new) (turns one w)) (sym e)
        (turn_more role f now next new (one (as_group v)) (turns one rest) p h));
  }

  pub turns_done : {A B : Type 0} (role : Value → Option B) (f : A → State → Option B × State) (one : Value → Option A)
      (start now : Draft) (all left : Value) → left ≡ nil → TurnsLeft role f one start now all left
      → IfThere (InTurn x ts role f start now) (turns one all)
  turns_done role f one start now all left e before =
      before.leads now (subst (λ (w : Value). IfThere (InTurn x ts role f now now) (turns one w)) (sym e)
      (record { is = turn_none role f now }))

  -- one part alone, or none
  pub turn_one : {A B : Type 0} (role : Value → Option B) (f : A → State → Option B × State) (old new : Draft) (it : A)
      → Turned x ts role f old new it → InTurn x ts role f old new (it ∷ [])
  turn_one role f old new it t = record {
    state = t.state;
    puts = t.puts;
  }

  -- parts, and others behind them
  pub turn_both : {A B : Type 0} (role : Value → Option B) (f : A → State → Option B × State) (old mid new : Draft)
      (them others : List A) → InTurn x ts role f old mid them → InTurn x ts role f mid new others
      → InTurn x ts role f old new (them ++ others)
  turn_both role f old mid new [] others p q =
      let same : state_of mid ≡ state_of old = p.state in
      record {
        state = q.state ∙ ap (λ (s : State). (in_turn f others s).1) same;
        puts = puts_both x ts role old.row mid.row new.row [] (some (in_turn f others (state_of old)).0) p.puts
            (subst (PutsAll x ts role mid.row new.row) (ap (λ (s : State). some (in_turn f others s).0) same) q.puts);
      }
  turn_both role f old mid new (a ∷ them) others p q = record {
    state = q.state ∙ (ap (λ (s : State). (in_turn f others s).1) p.state
        ∙ sym (both_state f them others (f a (state_of old)).1));
    puts = subst (PutsAll x ts role old.row new.row)
        (sym (some_joined f (a ∷ them) others (state_of old)))
        (puts_both x ts role old.row mid.row new.row (some (in_turn f (a ∷ them) (state_of old)).0)
        (some (in_turn f others (in_turn f (a ∷ them) (state_of old)).1).0) p.puts
        (subst (PutsAll x ts role mid.row new.row) (ap (λ (s : State). some (in_turn f others s).0) p.state) q.puts));
  }
