-- Examples: the path of a package's file, beside an index in a folder and in the root.
use Rattle.std.proofs.Common.{◌≡◌, refl, codes}
use Rattle.root_names.specs.PackagePath.{package_path}

beside_the_index : package_path (codes "repo/index.adb") (codes "hello") (codes "1.0-r0") ≡ codes "repo/hello-1.0-r0.apk"
beside_the_index = refl

in_the_root : package_path (codes "index.adb") (codes "a") (codes "1") ≡ codes "a-1.apk"
in_the_root = refl
