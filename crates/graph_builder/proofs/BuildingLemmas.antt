-- The steps of a builder keep what its slots say.
use Rattle.std.proofs.Common.{◌≡◌, ◌⊎◌, inl, inr, Bool, true, false, List, [], ◌∷◌, ◌++◌, refl, sym, ◌∙◌, ap, subst, Option, Some, None, append-nil, append_assoc}
use Rattle.std.specs.Prelude.{bytes_eq, ◌||◌}
use Rattle.std.specs.List.{IsDistinct, AllByRecursion}
use Rattle.std.specs.Cmp.Lexicographic.{nat_list_eq_equiv, same_text}
use Rattle.graph_entry.specs.declared.answer.LoadAnswer.{LoadAnswer}
use Rattle.graph_entry.specs.declared.entry.Entry.{Entry}
use Rattle.graph_entry.specs.Specifier.{loadable}
use Rattle.graph_builder.specs.declared.slot.Slot.{Slot}
use Rattle.graph_builder.specs.declared.slot.Slot.TheVariants.{Queued, Asked, Done}
use Rattle.graph_builder.specs.Rules.{targets}
use Rattle.graph_builder.specs.Reach.{Specifier, Log, Rules, answer_to, has, IsEntry, IsReached}
use Rattle.graph_builder.specs.Slots.{Slots, HasGrown}
use Rattle.graph_builder.specs.Events.{IsOutstanding}
use Rattle.graph_builder.specs.Builder.{IsAwaited, IsOrderlyAfter}
use Rattle.graph_builder.specs.Building.{IsBuilding, no_one, this_one, IsWritten}
use Rattle.graph_builder.proofs.ReachLemmas.{answer_kept, answer_other, entry_grows, reached_grows}
use Rattle.graph_builder.proofs.SlotsLemmas.{has_append, has_left, has_right, has_one, has_same}

-- equal texts are one
pub text_same : (s t : Specifier) → bytes_eq t s ≡ true → t ≡ s
text_same s t h = same_text t s (sym h)

-- a test that isn't true is false
pub false_from : (b : Bool) → (b ≡ true → ⊥) → b ≡ false
false_from true h = absurd (h refl)
false_from false h = refl

-- what is written at a specifier, and elsewhere
pub written_here : (old new : Slots) (s t : Specifier) (x : Slot) → IsWritten old new s x → bytes_eq t s ≡ true
    → new t ≡ Some x
written_here old new s t x w h = w t ∙ rw h refl

pub written_there : (old new : Slots) (s t : Specifier) (x : Slot) → IsWritten old new s x → bytes_eq t s ≡ false
    → new t ≡ old t
written_there old new s t x w h = w t ∙ rw h refl

-- nothing with a slot loses it
pub written_some : (old new : Slots) (s t : Specifier) (x : Slot) → IsWritten old new s x → (old t ≡ None → ⊥)
    → new t ≡ None → ⊥
written_some old new s t x w h n = by (bytes_eq t s) refl
  where
    by : (b : Bool) → bytes_eq t s ≡ b → ⊥
    by true e = let here = written_here old new s t x w e in cc
    by false e = h (sym (written_there old new s t x w e) ∙ n)

-- ---- a specifier is taken from the worklist

-- the first of a list without repeats isn't among the others
pub apart_first : (s : Specifier) (rest : List Specifier) → AllByRecursion (λ z. bytes_eq s z ≡ false) rest
    → has rest s ≡ false
apart_first s [] h = refl
apart_first s (z ∷ rest) h = rw (h.0, apart_first s rest h.1) refl

pub building_popped : (rules : Rules) (starts asked : List Specifier) (log : Log) (slots : Slots)
    (rest : List Specifier) (s : Specifier)
    → IsBuilding rules starts no_one asked log slots (s ∷ rest)
    → IsBuilding rules starts (this_one s) asked log slots rest
unfolding IsDistinct
building_popped rules starts asked log slots rest s b = record {
  sound = b.sound;
  done = b.done;
  closed = b.closed;
  outstanding = λ t out h. b.outstanding t refl h;
  queued = λ t out h. (queued t out (b.queued t refl h).0, (b.queued t refl h).1);
  listed = λ t h. ((b.listed t (later t h)).0, false_from (bytes_eq t s) (λ e. apart t h e));
  holds = λ t e n. holds t e n;
  todo_once = b.todo_once.1;
  asked_slot = b.asked_slot;
  answered = b.answered;
  orderly = b.orderly;
}
  where
    queued : (t : Specifier) → bytes_eq t s ≡ false → has (s ∷ rest) t ≡ true → has rest t ≡ true
    queued t out h = by (bytes_eq t s) out h
      where
        by : (c : Bool) → c ≡ false → (c || has rest t) ≡ true → has rest t ≡ true
        by true e g = absurd cc
        by false e g = g

    later : (t : Specifier) → has rest t ≡ true → has (s ∷ rest) t ≡ true
    later t h = by (bytes_eq t s)
      where
        by : (c : Bool) → (c || has rest t) ≡ true
        by true = refl
        by false = h

    apart : (t : Specifier) → has rest t ≡ true → bytes_eq t s ≡ true → ⊥
    apart t h e = let first = apart_first s rest b.todo_once.0 in let same = has_same rest s t e in cc

    here : (t : Specifier) → bytes_eq t s ≡ true → has (s ∷ rest) t ≡ true
    here t e = rw e refl

    holds : (t : Specifier) → bytes_eq t s ≡ true → slots t ≡ None → ⊥
    holds t e n = let q = (b.listed t (here t e)).0 in cc

-- what is known of the one that was taken
pub popped_slot : (rules : Rules) (starts asked : List Specifier) (log : Log) (slots : Slots) (rest : List Specifier)
    (s : Specifier)
    → IsBuilding rules starts no_one asked log slots (s ∷ rest) → (slots s ≡ Some Queued) × (has asked s ≡ false)
popped_slot rules starts asked log slots rest s b =
    let q : slots s ≡ Some Queued = (b.listed s (rw (nat_list_eq_equiv.refl s) refl)).0 in
    (q, (b.queued s refl q).1)

-- ---- the one in hand is asked for

pub building_asked : (rules : Rules) (starts asked : List Specifier) (log : Log) (slots new : Slots)
    (todo : List Specifier) (s : Specifier)
    → IsBuilding rules starts (this_one s) asked log slots todo → slots s ≡ Some Queued → has asked s ≡ false
    → IsWritten slots new s Asked → IsBuilding rules starts no_one (asked ++ s ∷ []) log new todo
building_asked rules starts asked log slots new todo s b here fresh w = record {
  sound = λ t x h. sound t x (bytes_eq t s) refl h;
  done = λ t e h. b.done t e (elsewhere t (Done e) (λ q. cc) h);
  closed = λ t u e h among. written_some slots new s u Asked w
      (b.closed t u e (elsewhere t (Done e) (λ q. cc) h) among);
  outstanding = λ t out h. outstanding t (bytes_eq t s) refl h;
  queued = λ t out h. queued t (bytes_eq t s) refl h;
  listed = λ t h. (written_there slots new s t Asked w (b.listed t h).1 ∙ (b.listed t h).0, refl);
  holds = λ t e n. absurd cc;
  todo_once = b.todo_once;
  asked_slot = λ t h. asked_slot t (has_append asked (s ∷ []) t h);
  answered = λ t a h. has_left asked (s ∷ []) t (b.answered t a h);
  orderly = b.orderly;
}
  where
    elsewhere : (t : Specifier) (x : Slot) → (Some x ≡ Some Asked → ⊥) → new t ≡ Some x → slots t ≡ Some x
    elsewhere t x differs h = by (bytes_eq t s) refl
      where
        by : (c : Bool) → bytes_eq t s ≡ c → slots t ≡ Some x
        by true e = absurd (differs (sym h ∙ written_here slots new s t Asked w e))
        by false e = sym (written_there slots new s t Asked w e) ∙ h

    sound : (t : Specifier) (x : Slot) (c : Bool) → bytes_eq t s ≡ c → new t ≡ Some x
        → IsReached rules starts (answer_to log) t
    sound t x true e h = b.sound t Queued (ap slots (text_same s t e) ∙ here)
    sound t x false e h = b.sound t x (sym (written_there slots new s t Asked w e) ∙ h)

    none_yet : (o : Option LoadAnswer) → answer_to log s ≡ o → answer_to log s ≡ None
    none_yet None e = e
    none_yet (Some a) e = absurd (let h = b.answered s a e in cc)

    outstanding : (t : Specifier) (c : Bool) → bytes_eq t s ≡ c → new t ≡ Some Asked
        → IsOutstanding (asked ++ s ∷ []) log t
    outstanding t true e h = (
      has_right asked (s ∷ []) t (has_one s t ∙ e),
      ap (answer_to log) (text_same s t e)
          ∙ none_yet (answer_to log s) refl,
    )
    outstanding t false e h =
        let old = b.outstanding t e (sym (written_there slots new s t Asked w e) ∙ h) in
        (has_left asked (s ∷ []) t old.0, old.1)

    not_asked : (t : Specifier) → bytes_eq t s ≡ false → has asked t ≡ false
        → (has asked t ≡ true) ⊎ (has (s ∷ []) t ≡ true) → ⊥
    not_asked t e f (inl h) = cc
    not_asked t e f (inr h) = let g = sym (has_one s t) ∙ h in cc

    queued : (t : Specifier) (c : Bool) → bytes_eq t s ≡ c → new t ≡ Some Queued
        → (has todo t ≡ true) × (has (asked ++ s ∷ []) t ≡ false)
    queued t true e h = absurd (let g = written_here slots new s t Asked w e in cc)
    queued t false e h =
        let old = b.queued t e (sym (written_there slots new s t Asked w e) ∙ h) in
        (old.0, false_from (has (asked ++ s ∷ []) t) (λ g. not_asked t e old.1 (has_append asked (s ∷ []) t g)))

    asked_slot : (t : Specifier) → (has asked t ≡ true) ⊎ (has (s ∷ []) t ≡ true) → new t ≡ None → ⊥
    asked_slot t (inl h) n = written_some slots new s t Asked w (b.asked_slot t h) n
    asked_slot t (inr h) n = let g = written_here slots new s t Asked w (sym (has_one s t) ∙ h) in cc

-- ---- an answer came for one that outstanding

-- one more answer that was awaited
pub orderly_push : (rules : Rules) (starts : List Specifier) (before log : Log) (s : Specifier) (a : LoadAnswer)
    → IsOrderlyAfter rules starts before log → IsAwaited rules starts (before ++ log) s
    → IsOrderlyAfter rules starts before (log ++ (s, a) ∷ [])
orderly_push rules starts before [] s a h w = (rw (sym (append-nil before)) w, tt)
orderly_push rules starts before (x ∷ log) s a h w =
    (h.0, orderly_push rules starts (before ++ x ∷ []) log s a h.1 (rw append_assoc w))

pub building_answered : (rules : Rules) (starts asked : List Specifier) (log : Log) (slots : Slots)
    (todo : List Specifier) (s : Specifier) (a : LoadAnswer)
    → IsBuilding rules starts no_one asked log slots todo → slots s ≡ Some Asked → loadable s ≡ true
    → IsBuilding rules starts (this_one s) asked (log ++ (s, a) ∷ []) slots todo
building_answered rules starts asked log slots todo s a b here loads =
    let within = answer_kept log ((s, a) ∷ []) in record {
      sound = λ t x h. reached_grows rules starts (answer_to log) (answer_to (log ++ (s, a) ∷ [])) within t
          (b.sound t x h);
      done = λ t e h. entry_grows rules (answer_to log) (answer_to (log ++ (s, a) ∷ [])) within t e (b.done t e h);
      closed = b.closed;
      outstanding = λ t out h. let old = b.outstanding t refl h in (old.0, answer_other log s a t out ∙ old.1);
      queued = λ t out h. b.queued t refl h;
      listed = λ t h. (
        (b.listed t h).0,
        false_from (bytes_eq t s) (λ e. let g = ap slots (text_same s t e) ∙ here in let q = (b.listed t h).0 in cc),
      );
      holds = λ t e n. let g = ap slots (text_same s t e) ∙ here in cc;
      todo_once = b.todo_once;
      asked_slot = b.asked_slot;
      answered = λ t c h. answered t c (bytes_eq t s) refl h;
      orderly = orderly_push rules starts [] log s a b.orderly
          (record { reached = b.sound s Asked here; loads = loads; open_yet = (b.outstanding s refl here).1 });
    }
  where
    answered : (t : Specifier) (c : LoadAnswer) (d : Bool) → bytes_eq t s ≡ d
        → answer_to (log ++ (s, a) ∷ []) t ≡ Some c → has asked t ≡ true
    answered t c true e h = has_same asked s t e ∙ (b.outstanding s refl here).0
    answered t c false e h = b.answered t c (sym (answer_other log s a t e) ∙ h)

-- the same, where others are in hand too: it waits for its answer no more
pub building_taken : (rules : Rules) (starts asked : List Specifier) (log : Log) (slots new : Slots)
    (todo : List Specifier) (held later : Specifier → Bool) (s : Specifier) (a : LoadAnswer)
    → IsBuilding rules starts held asked log slots todo → slots s ≡ Some Asked → held s ≡ false → loadable s ≡ true
    → IsWritten slots new s Queued
    → ((t : Specifier) → later t ≡ false → (held t ≡ false) × (bytes_eq t s ≡ false))
    → ((t : Specifier) → later t ≡ true → (held t ≡ true) ⊎ (bytes_eq t s ≡ true))
    → ((t : Specifier) → held t ≡ false → bytes_eq t s ≡ false → later t ≡ false)
    → IsBuilding rules starts later asked (log ++ (s, a) ∷ []) new todo
building_taken rules starts asked log slots new todo held later s a b here free loads w apart either neither =
    let within = answer_kept log ((s, a) ∷ []) in record {
      sound = λ t x h. reached_grows rules starts (answer_to log) (answer_to (log ++ (s, a) ∷ [])) within t
          (sound t x (bytes_eq t s) refl h);
      done = λ t e h. entry_grows rules (answer_to log) (answer_to (log ++ (s, a) ∷ [])) within t e
          (b.done t e (elsewhere t (Done e) (λ q. cc) h));
      closed = λ t u e h among. written_some slots new s u Queued w
          (b.closed t u e (elsewhere t (Done e) (λ q. cc) h) among);
      outstanding = λ t out h.
          let old = b.outstanding t (apart t out).0 (sym (written_there slots new s t Queued w (apart t out).1) ∙ h) in
          (old.0, answer_other log s a t (apart t out).1 ∙ old.1);
      queued = λ t out h.
          b.queued t (apart t out).0 (sym (written_there slots new s t Queued w (apart t out).1) ∙ h);
      listed = λ t h. listed t (b.listed t h);
      holds = λ t h. holds t (either t h);
      todo_once = b.todo_once;
      asked_slot = λ t h. written_some slots new s t Queued w (b.asked_slot t h);
      answered = λ t c h. answered t c (bytes_eq t s) refl h;
      orderly = orderly_push rules starts [] log s a b.orderly
          (record { reached = b.sound s Asked here; loads = loads; open_yet = (b.outstanding s free here).1 });
    }
  where
    elsewhere : (t : Specifier) (x : Slot) → (Some x ≡ Some Queued → ⊥) → new t ≡ Some x → slots t ≡ Some x
    elsewhere t x differs h = by (bytes_eq t s) refl
      where
        by : (c : Bool) → bytes_eq t s ≡ c → slots t ≡ Some x
        by true e = absurd (differs (sym h ∙ written_here slots new s t Queued w e))
        by false e = sym (written_there slots new s t Queued w e) ∙ h

    sound : (t : Specifier) (x : Slot) (c : Bool) → bytes_eq t s ≡ c → new t ≡ Some x
        → IsReached rules starts (answer_to log) t
    sound t x true e h = b.sound t Asked (ap slots (text_same s t e) ∙ here)
    sound t x false e h = b.sound t x (sym (written_there slots new s t Queued w e) ∙ h)

    listed : (t : Specifier) → (slots t ≡ Some Queued) × (held t ≡ false)
        → (new t ≡ Some Queued) × (later t ≡ false)
    listed t old =
        let other : bytes_eq t s ≡ false =
        false_from (bytes_eq t s) (λ e. let g = ap slots (text_same s t e) ∙ here in let q = old.0 in cc) in
        (written_there slots new s t Queued w other ∙ old.0, neither t old.1 other)

    holds : (t : Specifier) → (held t ≡ true) ⊎ (bytes_eq t s ≡ true) → new t ≡ None → ⊥
    holds t (inl h) n = written_some slots new s t Queued w (b.holds t h) n
    holds t (inr e) n = let g = written_here slots new s t Queued w e in cc

    answered : (t : Specifier) (c : LoadAnswer) (d : Bool) → bytes_eq t s ≡ d
        → answer_to (log ++ (s, a) ∷ []) t ≡ Some c → has asked t ≡ true
    answered t c true e h = has_same asked s t e ∙ (b.outstanding s free here).0
    answered t c false e h = b.answered t c (sym (answer_other log s a t e) ∙ h)

-- ---- what came is reached

pub building_grown : (rules : Rules) (starts : List Specifier) (in_hand : Specifier → Bool) (asked : List Specifier)
    (log : Log) (slots new : Slots) (todo later come : List Specifier)
    → IsBuilding rules starts in_hand asked log slots todo → HasGrown come slots new todo later
    → ((t : Specifier) → has come t ≡ true → IsReached rules starts (answer_to log) t)
    → IsBuilding rules starts in_hand asked log new later
building_grown rules starts in_hand asked log slots new todo later come b g reached = record {
  sound = λ t x h. sound t x (g.fresh t x h);
  done = λ t e h. b.done t e (old_one t (Done e) (λ q. cc) (g.fresh t (Done e) h));
  closed = λ t u e h among n. closed u (slots u) refl
      (b.closed t u e (old_one t (Done e) (λ q. cc) (g.fresh t (Done e) h)) among) n;
  outstanding = λ t out h. b.outstanding t out (old_one t Asked (λ q. cc) (g.fresh t Asked h));
  queued = λ t out h. queued t out h (g.fresh t Queued h);
  listed = λ t h. listed t (g.listed t h);
  holds = λ t e n. closed t (slots t) refl (b.holds t e) n;
  todo_once = g.once b.todo_once (λ t h n. let q = (b.listed t h).0 in cc);
  asked_slot = λ t h n. closed t (slots t) refl (b.asked_slot t h) n;
  answered = b.answered;
  orderly = b.orderly;
}
  where
    sound : (t : Specifier) (x : Slot) → (slots t ≡ Some x) ⊎ ((slots t ≡ None) × (has come t ≡ true) × (x ≡ Queued))
        → IsReached rules starts (answer_to log) t
    sound t x (inl h) = b.sound t x h
    sound t x (inr h) = reached t h.1

    old_one : (t : Specifier) (x : Slot) → (x ≡ Queued → ⊥)
        → (slots t ≡ Some x) ⊎ ((slots t ≡ None) × (has come t ≡ true) × (x ≡ Queued)) → slots t ≡ Some x
    old_one t x differs (inl h) = h
    old_one t x differs (inr h) = absurd (differs h.2)

    closed : (t : Specifier) (o : Option Slot) → slots t ≡ o → (slots t ≡ None → ⊥) → new t ≡ None → ⊥
    closed t None e h n = h e
    closed t (Some x) e h n = let k = g.kept t x e in cc

    queued : (t : Specifier) → in_hand t ≡ false → new t ≡ Some Queued
        → (slots t ≡ Some Queued) ⊎ ((slots t ≡ None) × (has come t ≡ true) × (Queued ≡ Queued))
        → (has later t ≡ true) × (has asked t ≡ false)
    queued t out q (inl h) = let old = b.queued t out h in (g.still t old.0, old.1)
    queued t out q (inr h) = (g.joined t h.0 q, false_from (has asked t) (λ f. b.asked_slot t f h.0))

    listed : (t : Specifier) → (has todo t ≡ true) ⊎ ((slots t ≡ None) × (new t ≡ Some Queued))
        → (new t ≡ Some Queued) × (in_hand t ≡ false)
    listed t (inl h) = (g.kept t Queued (b.listed t h).0, (b.listed t h).1)
    listed t (inr h) = (h.1, false_from (in_hand t) (λ e. b.holds t e h.0))

-- ---- one in hand has its entry

-- of those in hand, one is in hand no more
pub building_filled_by : (rules : Rules) (starts asked : List Specifier) (log : Log) (slots new : Slots)
    (todo : List Specifier) (held later : Specifier → Bool) (s : Specifier) (e : Entry)
    → IsBuilding rules starts held asked log slots todo → IsReached rules starts (answer_to log) s
    → IsEntry rules (answer_to log) s e
    → ((u : Specifier) → has (targets rules e) u ≡ true → slots u ≡ None → ⊥)
    → IsWritten slots new s (Done e)
    → ((t : Specifier) → held t ≡ false → (bytes_eq t s ≡ false) × (later t ≡ false))
    → ((t : Specifier) → later t ≡ true → held t ≡ true)
    → ((t : Specifier) → bytes_eq t s ≡ false → later t ≡ false → held t ≡ false)
    → IsBuilding rules starts later asked log new todo
building_filled_by rules starts asked log slots new todo held later s e b reached is_entry closed w apart still out =
    record {
      sound = λ t x h. sound t x (bytes_eq t s) refl h;
      done = λ t f h. done t f (bytes_eq t s) refl h;
      closed = λ t u f h among. written_some slots new s u (Done e) w (shut t u f (bytes_eq t s) refl h among);
      outstanding = λ t free h. outstanding t (bytes_eq t s) refl free h;
      queued = λ t free h. queued t (bytes_eq t s) refl free h;
      listed = λ t h. (
        written_there slots new s t (Done e) w (apart t (b.listed t h).1).0 ∙ (b.listed t h).0,
        (apart t (b.listed t h).1).1,
      );
      holds = λ t h. written_some slots new s t (Done e) w (b.holds t (still t h));
      todo_once = b.todo_once;
      asked_slot = λ t h. written_some slots new s t (Done e) w (b.asked_slot t h);
      answered = b.answered;
      orderly = b.orderly;
    }
  where
    sound : (t : Specifier) (x : Slot) (c : Bool) → bytes_eq t s ≡ c → new t ≡ Some x
        → IsReached rules starts (answer_to log) t
    sound t x true d h = subst (IsReached rules starts (answer_to log)) (sym (text_same s t d)) reached
    sound t x false d h = b.sound t x (sym (written_there slots new s t (Done e) w d) ∙ h)

    same_entry : (f g : Entry) → Some (Done f) ≡ Some (Done g) → f ≡ g
    same_entry f g h = cc

    done : (t : Specifier) (f : Entry) (c : Bool) → bytes_eq t s ≡ c → new t ≡ Some (Done f)
        → IsEntry rules (answer_to log) t f
    done t f true d h =
        let same = same_entry e f (sym (written_here slots new s t (Done e) w d) ∙ h) in
        subst (λ (u : Specifier). IsEntry rules (answer_to log) u f) (sym (text_same s t d))
        (subst (λ (g : Entry). IsEntry rules (answer_to log) s g) same is_entry)
    done t f false d h = b.done t f (sym (written_there slots new s t (Done e) w d) ∙ h)

    shut : (t u : Specifier) (f : Entry) (c : Bool) → bytes_eq t s ≡ c → new t ≡ Some (Done f)
        → has (targets rules f) u ≡ true → slots u ≡ None → ⊥
    shut t u f true d h among =
        let same = same_entry e f (sym (written_here slots new s t (Done e) w d) ∙ h) in
        closed u (ap (λ (g : Entry). has (targets rules g) u) same ∙ among)
    shut t u f false d h among = b.closed t u f (sym (written_there slots new s t (Done e) w d) ∙ h) among

    outstanding : (t : Specifier) (c : Bool) → bytes_eq t s ≡ c → later t ≡ false → new t ≡ Some Asked
        → IsOutstanding asked log t
    outstanding t true d free h = absurd (let g = written_here slots new s t (Done e) w d in cc)
    outstanding t false d free h =
        b.outstanding t (out t d free) (sym (written_there slots new s t (Done e) w d) ∙ h)

    queued : (t : Specifier) (c : Bool) → bytes_eq t s ≡ c → later t ≡ false → new t ≡ Some Queued
        → (has todo t ≡ true) × (has asked t ≡ false)
    queued t true d free h = absurd (let g = written_here slots new s t (Done e) w d in cc)
    queued t false d free h = b.queued t (out t d free) (sym (written_there slots new s t (Done e) w d) ∙ h)

-- the only one in hand
pub building_filled : (rules : Rules) (starts asked : List Specifier) (log : Log) (slots new : Slots)
    (todo : List Specifier) (s : Specifier) (e : Entry)
    → IsBuilding rules starts (this_one s) asked log slots todo → IsReached rules starts (answer_to log) s
    → IsEntry rules (answer_to log) s e
    → ((u : Specifier) → has (targets rules e) u ≡ true → slots u ≡ None → ⊥)
    → IsWritten slots new s (Done e) → IsBuilding rules starts no_one asked log new todo
building_filled rules starts asked log slots new todo s e b reached is_entry closed w =
    building_filled_by rules starts asked log slots new todo (this_one s) no_one s e b reached is_entry closed w
    (λ t h. (h, refl)) (λ t h. absurd cc) (λ t d h. d)
