use Rattle.http_request.proofs.FrameLemmas as places
use Rattle.http_request.proofs.laws.reads_places.Goals as goal

pub returns : goal.returns
returns c = places.reads_places c.reads_names.ensures c.reads_days.ensures c.is_text_of_day.ensures c.reads_hours.ensures c.reads_numbers.ensures
