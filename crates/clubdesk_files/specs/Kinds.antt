-- Defines what the kind of an error says about a server.
use Rattle.std.specs.Prelude.{◌≡◌, ◌⊎◌}
use Rattle.std.specs.declared.io.ErrorKind.{ErrorKind}
use Rattle.std.specs.declared.io.ErrorKind.TheVariants.{BrokenPipe, ConnectionRefused, ConnectionReset, InvalidInput, NotFound, PermissionDenied, UnexpectedEof}

-- The server ended before it sent all of its bytes.
abbrev pub IsCutShort : ErrorKind → Type 0
IsCutShort kind = (kind ≡ UnexpectedEof) ⊎ (kind ≡ ConnectionReset)

-- No server listens on the door, the door's name is too long, or only root can use the door.
abbrev pub IsNobody : ErrorKind → Type 0
IsNobody kind = (kind ≡ NotFound) ⊎ (kind ≡ ConnectionRefused) ⊎ (kind ≡ InvalidInput) ⊎ (kind ≡ PermissionDenied)

-- The server closed the connection before it read all of the command.
abbrev pub IsLeftUnread : ErrorKind → Type 0
IsLeftUnread kind = (kind ≡ BrokenPipe) ⊎ (kind ≡ ConnectionReset)
