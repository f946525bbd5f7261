use Rattle.typed_view.proofs.Crossings.{cover_is}
use Rattle.typed_view.proofs.boundaries.boundary_covers.Goals as goal

pub returns : goal.returns
returns c = cover_is
