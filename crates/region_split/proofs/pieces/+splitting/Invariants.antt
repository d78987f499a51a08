use Rattle.std.proofs.Common.{◌+◌, ◌-◌, ◌*◌}
use Rattle.region_split.proofs.pieces.+splitting.Given as goal

-- A piece after more splits has fewer splits left.
abbrev pub decreases-piece_shown : goal.decreases-piece_shown
decreases-piece_shown l = 4 * (9 - l.splits) + 2

abbrev pub decreases-broken_piece : goal.decreases-broken_piece
decreases-broken_piece l = 4 * (9 - l.splits) + 1

abbrev pub decreases-halves : goal.decreases-halves
decreases-halves l = 4 * (9 - l.splits)

abbrev pub decreases-half : goal.decreases-half
decreases-half l = 4 * (8 - l.splits) + 3
