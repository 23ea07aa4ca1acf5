use Rattle.std.proofs.Common.{◌∙◌, ap, ◌≡◌}
use Rattle.std.specs.Str.{str_to_ascii_lowercase}
use Rattle.media_type.specs.Endings.{media_type_of, first_ending, endings}
use Rattle.media_type.proofs.endings.lowered_ending.Goals as goal

-- the table of the code is that of the definition, and the text is the path in small letters
pub returns : goal.returns
unfolding media_type_of
returns c =
    let lowered : c.as_str.result.now ≡ str_to_ascii_lowercase c.args.path.now
    = c.as_str.ensures.value ∙ c.make_ascii_lowercase.ensures.bytes
    ∙ ap str_to_ascii_lowercase c.in_ok-lowered.ensures.ok in
    c.first_ending.ensures ∙ ap (first_ending endings) lowered
