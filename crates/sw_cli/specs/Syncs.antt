-- What a sync of a file comes to: pipes, and devices that hold nothing back, refuse it, and that is no failure.
use Rattle.std.specs.Prelude.{Bool, true, false}
use Rattle.std.specs.declared.io.ErrorKind.{ErrorKind}
use Rattle.std.specs.declared.io.ErrorKind.TheVariants.{InvalidInput, ReadOnlyFilesystem, Unsupported}

-- POSIX, "fsync": EINVAL where the file can't be synced. Linux, fsync(2): EROFS too. ENOTSUP (own).
abbrev pub cannot_sync : ErrorKind → Bool
cannot_sync InvalidInput = true
cannot_sync ReadOnlyFilesystem = true
cannot_sync Unsupported = true
cannot_sync _ = false
