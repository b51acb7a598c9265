use Rattle.edges.proofs.Before.{before_by_ways}
use Rattle.edges.proofs.Earlier.{earlier_by_ways}
use Rattle.edges.proofs.Edges.{edges_tell}
use Rattle.edges.proofs.edges_tell_order.Goals as goal

pub returns : goal.returns
returns c = record { edges = edges_tell; search = before_by_ways; serial = earlier_by_ways }
