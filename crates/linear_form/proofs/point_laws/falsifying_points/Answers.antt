use Rattle.linear_form.proofs.FalsifyingPoints.{points_agree, points_falsify}
use Rattle.linear_form.proofs.point_laws.falsifying_points.Goals as goal

pub returns : goal.returns
returns c = record { agree = points_agree; falsify = points_falsify }
