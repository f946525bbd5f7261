use Rattle.certificate.proofs.Spaced.{named_text}
use Rattle.certificate.proofs.texts.push_named.Goals as goal

pub returns : goal.returns
returns c =
    rw (c.in_ok-push.ensures.items, c.in_ok-push_spaced.ensures.added, c.in_ok-extend_from_slice.ensures.items)
    (named_text c.args.text.now.items c.args.name.now c.args.numbers.now)
