-- This file defines the parts of a request line that a log shows, and the count of failed waits.
use Rattle.std.specs.{Borrow.Bor, Char.{is_ascii_digit, is_ascii_lowercase, is_ascii_uppercase}, List.list_all, Prelude.{ℕ, ◌+◌, Bool, ◌==◌, ◌||◌, ◌&&◌, List}}
use Rattle.std.specs.Prelude.{length, take, drop, position, nat_lt, nat_le, Option, Some, None, option_map, option_and_then, if◌then◌else◌}
use Rattle.club_http.specs.Exchange.{one_more}
use Rattle.desk_server.specs.declared.connections.Arrival.{Arrival, TheVariants.{Client, Command, Nobody}}

-- The count of failed waits after one more wait. The count grows by one if the last wait failed.
abbrev pub failures_after : {C O : Type 0} → ℕ → Arrival C O → ℕ
failures_after failures (Client client) = failures
failures_after failures (Command command) = failures
failures_after failures Nobody = one_more failures

-- The bytes of the given word. The bytes are `None` if the word is missing.
abbrev pub word_bytes : Option (Bor (List ℕ)) → Option (List ℕ)
word_bytes word = option_map (λ (w : Bor (List ℕ)). w.now) word

abbrev pub place_of_space : List ℕ → Option ℕ
place_of_space bytes = position (λ byte. byte == 32) bytes

-- The first two words of the given bytes, if a space follows each word. Otherwise, the result is
-- `None`.
abbrev pub two_words : List ℕ → Option (List ℕ × List ℕ)
two_words bytes = option_and_then
    (λ first. let rest = drop (first + 1) bytes in option_map (λ second. (take first bytes, take second rest)) (place_of_space rest))
    (place_of_space bytes)

-- A byte of a path is a small letter, a digit, a dash or a slash. The desk's own paths have no
-- other characters.
abbrev pub is_path_byte : ℕ → Bool
is_path_byte byte = is_ascii_lowercase byte || is_ascii_digit byte || byte == 45 || byte == 47

abbrev pub is_method : List ℕ → Bool
is_method word = nat_lt 0 (length word) && nat_le (length word) 7 && list_all is_ascii_uppercase word

abbrev pub is_path : List ℕ → Bool
is_path word = nat_lt 0 (length word) && list_all is_path_byte word

-- The method of a request that starts with the given bytes. The method is the first word, if that
-- word is 1 to 7 capital letters.
unfoldable pub method_of : List ℕ → Option (List ℕ)
method_of bytes = option_and_then (λ words. if is_method words.0 then Some words.0 else None) (two_words bytes)

-- The path of a request that starts with the given bytes. The path is the second word, if that word
-- consists of small letters, digits, dashes and slashes.
unfoldable pub path_of : List ℕ → Option (List ℕ)
path_of bytes = option_and_then (λ words. if is_path words.1 then Some words.1 else None) (two_words bytes)
