use Rattle.text_checks.proofs.PlaceLaws.{no_place-no_name, place-first, place-name}
use Rattle.text_checks.proofs.laws.places_have_their_names.Goals as goal

pub returns : goal.returns
returns c = record { name = place-name; first = place-first; none = no_place-no_name }
