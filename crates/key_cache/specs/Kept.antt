-- This file defines the state of a new cache of derived keys.
use Rattle.std.specs.Prelude.{◌≡◌, [], IfSome}
use Rattle.lru.specs.LruCache.{lru_cache}
use Rattle.key_cache.specs.declared.KeptKeys.{KeptKeys}

-- The field `cache` is either `None`, or an empty cache with room for 64 derived keys.
abbrev pub IsFresh : KeptKeys → Type 0
IsFresh keys = IfSome keys.cache (λ cache. cache ≡ lru_cache [] 64)
