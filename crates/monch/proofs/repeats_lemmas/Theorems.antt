-- The laws of counts, which other crates may name.
use Rattle.std.proofs.Common.{inl, inr, ℕ, List, refl, sym, ◌∙◌}
use Rattle.std.specs.Global.{Vec}
use Rattle.monch.specs.core_parsers.Outcome.{backtrack, failure, no_memory, Outcome, success, refused, Meaning}
use Rattle.monch.specs.repeats.Repeat.{Backtracks, GivesVec, GivesCount, GivesFold, TakesNoMemory}
use Rattle.monch.specs.repeats.Items.{GivesItems}
use Rattle.monch.specs.repeats.Separated.{GivesSeparated}
use Rattle.monch.specs.repeats.Agree.{LeavesOneRest, IsCountOf}
use Rattle.monch.proofs.repeats_lemmas.RoomLemmas.{GivesItems-in_room, GivesSeparated-in_room}
use Rattle.monch.proofs.repeats_lemmas.AgreeLemmas.{AgreeOnLength, GivesItems-once, GivesSeparated-once}

-- the list in a vector and the count of a list that agrees with itself
IsCountOf-once : {O : Type 0} (list : Meaning (List O)) (text : List ℕ)
    (once : (one other : Outcome (List O)) → list text one → list text other → AgreeOnLength one other)
    (listed : Outcome (Vec O)) (counted : Outcome ℕ) → GivesVec list text listed → GivesCount list text counted
    → IsCountOf listed counted
IsCountOf-once list text once (success rest values) (success also count) given (others, also_given, is) =
    let agree = once (success rest values.items) (success also others) given also_given in
    (agree.0, is ∙ sym agree.1)
IsCountOf-once list text once (success rest values) (refused why) given counts =
    once (success rest values.items) (refused why) given counts
IsCountOf-once list text once (refused no_memory) (success rest count) given counts = refl
IsCountOf-once list text once (refused backtrack) (success rest count) given (others, also_given, is) =
    once (refused backtrack) (success rest others) given also_given
IsCountOf-once list text once (refused (failure input message)) (success rest count) given (others, also_given, is) =
    once (refused (failure input message)) (success rest others) given also_given
IsCountOf-once list text once (refused no_memory) (refused other) given counts = inr (inl refl)
IsCountOf-once list text once (refused backtrack) (refused other) given counts =
    once (refused backtrack) (refused other) given counts
IsCountOf-once list text once (refused (failure input message)) (refused other) given counts =
    once (refused (failure input message)) (refused other) given counts

-- over a part that leaves one rest, `many0_count` gives the length of the list that `many0` gives, with the same rest or refusal
pub many0_count_is_length : {O : Type 0} (item : Meaning O) → LeavesOneRest item
    → (text : List ℕ) (listed : Outcome (Vec O)) (counted : Outcome ℕ)
    → GivesVec (GivesItems item Backtracks) text listed → GivesCount (GivesItems item Backtracks) text counted
    → IsCountOf listed counted
many0_count_is_length item one_item text =
    IsCountOf-once (GivesItems item Backtracks) text
    (λ one other a b. GivesItems-once item Backtracks one_item one_end a b)
  where
    one_end : LeavesOneRest Backtracks
    one_end here (success rest v) other a b = absurd (cc)
    one_end here (refused why) (success rest v) a b = absurd (cc)
    one_end here (refused why) (refused other) a b = inl (cc)

-- over parts that leave one rest, `separated_count` gives the length of the list that `separated_list` gives, with the same rest or refusal
pub separated_count_is_length : {O P : Type 0} (item : Meaning O) (separator : Meaning P) → LeavesOneRest item
    → LeavesOneRest separator
    → (text : List ℕ) (listed : Outcome (Vec O)) (counted : Outcome ℕ)
    → GivesVec (GivesSeparated item separator) text listed → GivesCount (GivesSeparated item separator) text counted
    → IsCountOf listed counted
separated_count_is_length item separator one_item one_separator text =
    IsCountOf-once (GivesSeparated item separator) text
    (λ one other a b. GivesSeparated-once item separator one_item one_separator a b)

-- over a part that takes no memory, `many0_count` answers without it
pub many0_count_in_room : {O : Type 0} (item : Meaning O) → TakesNoMemory item
    → TakesNoMemory (GivesCount (GivesItems item Backtracks))
many0_count_in_room item room = GivesItems-in_room item Backtracks room (λ text given. cc)

-- over parts that take no memory, `separated_count` answers without it
pub separated_count_in_room : {O P : Type 0} (item : Meaning O) (separator : Meaning P) → TakesNoMemory item
    → TakesNoMemory separator
    → TakesNoMemory (GivesCount (GivesSeparated item separator))
separated_count_in_room item separator item_room separator_room =
    GivesSeparated-in_room item separator item_room separator_room

-- and so do the folds
pub many_till_fold_in_room : {O P S : Type 0} (item : Meaning O) (until : Meaning P) (Step : S → O → S → Type 0)
    (init : S)
    → TakesNoMemory item → TakesNoMemory until → TakesNoMemory (GivesFold (GivesItems item until) Step init)
many_till_fold_in_room item until Step init item_room until_room = GivesItems-in_room item until item_room until_room

pub separated_fold_in_room : {O P S : Type 0} (item : Meaning O) (separator : Meaning P) (Step : S → O → S → Type 0)
    (init : S)
    → TakesNoMemory item → TakesNoMemory separator → TakesNoMemory (GivesFold (GivesSeparated item separator) Step init)
separated_fold_in_room item separator Step init item_room separator_room =
    GivesSeparated-in_room item separator item_room separator_room
