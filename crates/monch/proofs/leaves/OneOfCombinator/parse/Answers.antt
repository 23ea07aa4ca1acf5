use Rattle.std.proofs.Common.{◌≡◌, Contains, true, false, refl, subst, sym}
use Rattle.std.specs.Str.{chars}
use Rattle.monch.proofs.FrontLemmas.{first_char_is_one, nothing_begins_empty}
use Rattle.monch.proofs.leaves.OneOfCombinator.parse.Goals as goal
use Rattle.monch.proofs.leaves.OneOfCombinator.parse.Goals.{in_default-via-in-Some+else-has_character, in_default-via-in_default}

-- the first character is none of them, or there is none
pub returns-in_default : goal.returns-in_default
returns-in_default c =
    elim c.in_default.branch [
      | in_default-via-in-Some+else-has_character w ↦ (
        refl,
        λ character one begins.
            let same = first_char_is_one c.args.input.now _ _ w.in-Some.first character c.utf8.input w.in-Some.ensures
            begins.1 in
            let has : Contains (chars c.args.self.now.characters.now) w.in-Some.first =
            subst (λ x. Contains (chars c.args.self.now.characters.now) x) (sym same) one in
            let said : false ≡ true = w.if-has_character.ensures.1 has in
            cc,
      )
      | in_default-via-in_default w ↦ (
        refl,
        λ character one begins. nothing_begins_empty c.args.input.now _ character w.in_default.ensures
            begins.1,
      )
    ]
