-- Each specifier is what its own text is read as, or the first that isn't is named.
use Rattle.std.proofs.Common.{refl, subst, IsUtf8}
use Rattle.std.proofs.lemmas.Str.{IsUtf8-string_bytes}
use Rattle.vendor_run.specs.Due.{bundled, unread}
use Rattle.vendor_run.proofs.ReadableLemmas.{all_read}
use Rattle.vendor_run.proofs.due.planned.Goals as goal

pub returns-in_ok-unread_line-in-Some : goal.returns-in_ok-unread_line-in-Some
returns-in_ok-unread_line-in-Some c =
    unread c.in-Some.name.now c.in-Some.ensures.first refl c.in_ok-unread_line-in-Some.ensures

pub returns-in_ok-plan_text-in-None : goal.returns-in_ok-plan_text-in-None
returns-in_ok-plan_text-in-None c =
    let is = c.in_ok-plan_text-in-None.ensures in
    bundled
    (record {
      utf8 = subst IsUtf8 is (IsUtf8-string_bytes c.in_ok-plan_text-in-None.field-0);
      bytes = c.in-None.ensures.bytes refl;
      names = all_read _ c.in-None.ensures.first;
    })
    refl is
