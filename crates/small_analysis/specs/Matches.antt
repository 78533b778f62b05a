-- Where the brackets stand that match those near positions.
use Rattle.std.specs.Prelude.{ℕ, List, [], ◌∷◌, Option, Some, option_and_then}
use Rattle.std.specs.Option.{option_map, unwrap_or}
use Rattle.small_analysis.specs.Brackets.{partner_near}
use Rattle.small_analysis.specs.Positions.{place_in, position_in}
use Rattle.text_core.specs.declared.position.Position.{Position}
use Rattle.text_core.specs.declared.position.PositionEncoding.{PositionEncoding}

-- where the bracket stands that matches the one near a place, else the position as it was given
abbrev pub matched : PositionEncoding → List ℕ → Position → ℕ → Position
matched encoding text position place = unwrap_or
    (option_map (λ bracket. position_in encoding text bracket.place) (partner_near text place)) position

-- the same of each position, where all have a place
abbrev pub all_matched : PositionEncoding → List ℕ → List Position → Option (List Position)
all_matched encoding text [] = Some []
all_matched encoding text (position ∷ positions) =
    option_and_then (λ place. option_map (λ others. matched encoding text position place ∷ others)
    (all_matched encoding text positions))
    (place_in encoding text position)
