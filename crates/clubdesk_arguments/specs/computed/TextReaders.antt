-- Computes the club's values from texts.
use Rattle.club_values.specs.computed.TextOf.{name_of_text, kind_of_text, day_of_text, hour_of_text, moment_of_text}
use Rattle.clubdesk_arguments.specs.Values.{Readers}

abbrev pub text_readers : Readers
text_readers = record {
  name = name_of_text;
  kind = kind_of_text;
  day = day_of_text;
  hour = hour_of_text;
  moment = moment_of_text;
}
