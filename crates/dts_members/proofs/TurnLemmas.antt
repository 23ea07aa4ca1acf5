-- Lists of members, by what is written of them.
use Rattle.std.specs.Prelude.{ℕ, Bool, true, false, List, [], ◌∷◌, ◌++◌, length, take, Option, Some, None}
use Rattle.std.proofs.Common.{◌≡◌, refl, sym, ap, subst, ◌∙◌}
use Rattle.es_token.specs.declared.token.Token.{Token}
use Rattle.es_ast.specs.declared.ast.ClassMember.{ClassMember}
use Rattle.es_lowering.specs.Value.{Value, nil, more, given, part, as_group, option_list, turns, member_at}
use Rattle.es_lowering.specs.Lowering.{packed}
use Rattle.es_syntax.specs.declared.entry.What.TheVariants as vWhat
use Rattle.es_syntax.specs.Roles.{member_in}
use Rattle.es_changed.specs.declared.entry.Change.TheVariants as change
use Rattle.es_changed.specs.declared.entry.ChangedEntry.{ChangedEntry}
use Rattle.es_changed.specs.Shape.{closed, opened, Writes}
use Rattle.es_changed.proofs.Written.{group_written, taken_open}
use Rattle.dts_rules.specs.Rules as rules
use Rattle.dts_rules.specs.Rules.{State, in_turn, some}
use Rattle.dts_rules.specs.Programs.{shown_member}
use Rattle.dts_draft.specs.declared.draft.Draft.{Draft}
use Rattle.dts_draft.specs.Drafts.{state_of}
use Rattle.dts_draft.specs.Written.{IfThere, Gives, PutsAll}
use Rattle.dts_draft.proofs.Lists.{puts_none, puts_both}
use Rattle.dts_fields.specs.Fields.{MemberMade}
use Rattle.dts_members.specs.Members.{member_turn, MembersMade, TurnMade}

some_first : {A : Type 0} (o : Option A) (os : List (Option A)) → option_list o ++ some os ≡ some (o ∷ os)
some_first (Some a) os = refl
some_first None os = refl

module _ (by : rules.Env) (x : List ℕ) (ts : List Token) where
  -- ---- in a turn

  -- what was written while the turn was open: a part, or none
  pub turn_kept : (old begun mid new : Draft) (place : ℕ) (wrote : Bool) (g w v : Value) → g ≡ as_group w
      → part g 0 ≡ v → wrote ≡ true → begun.row ≡ old.row ++ opened → place ≡ length old.row
      → state_of begun ≡ state_of old → IfThere (MemberMade x ts by begun mid wrote) (member_in v)
      → new.row ≡ closed (change.Old vWhat.Parts) 0 0 place mid.row → state_of new ≡ state_of mid
      → IfThere (TurnMade x ts by old new) (member_at (as_group w) 0)
  turn_kept old begun mid new place wrote g w v eg ev et eo ep sb h en sn =
      subst (λ (v : Value). IfThere (TurnMade x ts by old new) (member_in v))
      (sym (ap (λ (g : Value). part g 0) (sym eg) ∙ ev)) (go (member_in v) h)
    where
      put : (o : Option ClassMember) → Gives x ts member_in begun.row mid.row wrote o
          → PutsAll x ts (member_turn x ts) old.row new.row (option_list o)
      put None q = let bad : ⊥ = cc in absurd bad
      put (Some m) q = record {
        values = packed (q.1.value ∷ []) ∷ [];
        writes = group_written x ts 0 0 place old.row begun.row mid.row new.row (q.1.value ∷ []) eo ep q.1.writes en;
        are = ap (λ o. o ∷ []) q.1.is;
      }

      go : (o : Option ClassMember) → IfThere (MemberMade x ts by begun mid wrote) o
          → IfThere (TurnMade x ts by old new) o
      go None h = record { is = tt }
      go (Some it) h = record {
        is = record {
          state = sn ∙ (h.is.state ∙ ap (λ (s : State). (shown_member by it s).1) sb);
          puts = subst (λ (s : State). PutsAll x ts (member_turn x ts) old.row new.row
              (option_list (shown_member by it s).0)) sb
              (put (shown_member by it (state_of begun)).0 h.is.gives);
        };
      }

  pub turn_gone : (old begun mid taken new : Draft) (place : ℕ) (wrote : Bool) (g w v : Value) → g ≡ as_group w
      → part g 0 ≡ v → wrote ≡ false → begun.row ≡ old.row ++ opened → place ≡ length old.row
      → state_of begun ≡ state_of old → IfThere (MemberMade x ts by begun mid wrote) (member_in v)
      → taken.row ≡ take place mid.row → Writes x ts taken.row new.row [] → state_of new ≡ state_of mid
      → IfThere (TurnMade x ts by old new) (member_at (as_group w) 0)
  turn_gone old begun mid taken new place wrote g w v eg ev et eo ep sb h er wr sn =
      subst (λ (v : Value). IfThere (TurnMade x ts by old new) (member_in v))
      (sym (ap (λ (g : Value). part g 0) (sym eg) ∙ ev)) (go (member_in v) h)
    where
      put : (o : Option ClassMember) → Gives x ts member_in begun.row mid.row wrote o
          → PutsAll x ts (member_turn x ts) old.row new.row (option_list o)
      put (Some m) q = let bad : ⊥ = cc in absurd bad
      put None q = record {
        values = [];
        writes = subst (λ (row : List ChangedEntry). Writes x ts row new.row [])
            (er ∙ taken_open x ts place old.row begun.row mid.row [] eo ep q.1) wr;
        are = refl;
      }

      go : (o : Option ClassMember) → IfThere (MemberMade x ts by begun mid wrote) o
          → IfThere (TurnMade x ts by old new) o
      go None h = record { is = tt }
      go (Some it) h = record {
        is = record {
          state = sn ∙ (h.is.state ∙ ap (λ (s : State). (shown_member by it s).1) sb);
          puts = subst (λ (s : State). PutsAll x ts (member_turn x ts) old.row new.row
              (option_list (shown_member by it s).0)) sb
              (put (shown_member by it (state_of begun)).0 h.is.gives);
        };
      }

  -- ---- one after the other
  made_none : (old : Draft) → MembersMade x ts by old old []
  made_none old = record { state = refl; puts = puts_none x ts (member_turn x ts) old.row }

  made_more : (old mid new : Draft) (it : ClassMember) (them : List ClassMember) → TurnMade x ts by old mid it
      → MembersMade x ts by mid new them → MembersMade x ts by old new (it ∷ them)
  made_more old mid new it them m h = record {
    state = h.state ∙ ap (λ (s : State). (in_turn (shown_member by) them s).1) m.state;
    puts = subst (λ (bs : List ClassMember). PutsAll x ts (member_turn x ts) old.row new.row bs)
        (some_first (shown_member by it (state_of old)).0
        (in_turn (shown_member by) them (shown_member by it (state_of old)).1).0)
        (puts_both x ts (member_turn x ts) old.row mid.row new.row
        (option_list (shown_member by it (state_of old)).0)
        (some (in_turn (shown_member by) them (shown_member by it (state_of old)).1).0) m.puts
        (subst (λ (s : State). PutsAll x ts (member_turn x ts) mid.row new.row
        (some (in_turn (shown_member by) them s).0)) m.state h.puts));
  }

  -- what is left leads to all
  abbrev Rest : Draft → Draft → Value → Type 0
  Rest old new row = IfThere (MembersMade x ts by old new) (turns (λ turn. member_at turn 0) row)

  pub record MembersLeft (start now : Draft) (all left : Value) : Type 0 where
    pub leads : (new : Draft) → Rest now new left → Rest start new all

  pub members_all : (start : Draft) (all : Value) → MembersLeft start start all all
  members_all start all = record { leads = λ new h. h }

  more_left : (old mid new : Draft) (o : Option ClassMember) (os : Option (List ClassMember))
      → IfThere (TurnMade x ts by old mid) o → IfThere (MembersMade x ts by mid new) os
      → IfThere (MembersMade x ts by old new) (given o (λ a. given os (λ rest. Some (a ∷ rest))))
  more_left old mid new None os m h = record { is = tt }
  more_left old mid new (Some a) None m h = record { is = tt }
  more_left old mid new (Some a) (Some them) m h = record { is = made_more old mid new a them m.is h.is }

  pub members_next : (start now next : Draft) (all left v rest : Value) → left ≡ more v rest
      → MembersLeft start now all left → IfThere (TurnMade x ts by now next) (member_at (as_group v) 0)
      → MembersLeft start next all rest
  members_next start now next all left v rest e before m = record {
    leads = λ new h.
        before.leads new (subst (λ (w : Value). Rest now new w) (sym e)
        (more_left now next new (member_at (as_group v) 0) (turns (λ turn. member_at turn 0) rest) m h));
  }

  pub members_done : (start now : Draft) (all left : Value) → left ≡ nil → MembersLeft start now all left
      → Rest start now all
  members_done start now all left e before =
      before.leads now (subst (λ (w : Value). Rest now now w) (sym e) (record { is = made_none now }))
