use Rattle.std.proofs.Common.{ap, ◌∙◌}
use Rattle.model.specs.Lists.{put}
use Rattle.order.specs.States.{State, place}
use Rattle.order.proofs.book.Book.seat.Goals as goal

pub returns : goal.returns
returns c =
    let second : State → State = λ s. record s { link = put s.link (place c.args.x) c.args.seat.leaf } in
    record { seated = c.hang-2.ensures.hung ∙ ap second c.hang.ensures.hung }
