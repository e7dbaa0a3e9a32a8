-- The indexes of fields in an object of their table, counted from 0. The number in brackets is the one
-- by which causes and `docs/formats.md`, "Schemas", name the field; there fields count from 1. The
-- tables themselves are in Schema. The program has the same list in its module `field_indexes`.
use Rattle.std.specs.Prelude.{ℕ}

-- ---- a dependency

-- the index of *name* in a dependency (field 101 in causes)
abbrev pub DEP_NAME_INDEX : ℕ
DEP_NAME_INDEX = 0

-- the index of *version* in a dependency (field 102 in causes)
abbrev pub DEP_VERSION_INDEX : ℕ
DEP_VERSION_INDEX = 1

-- the index of *match* in a dependency (field 103 in causes)
abbrev pub DEP_MATCH_INDEX : ℕ
DEP_MATCH_INDEX = 2

-- ---- an access list

-- the index of *mode* in an access list (field 201 in causes)
abbrev pub ACL_MODE_INDEX : ℕ
ACL_MODE_INDEX = 0

-- the index of *user* in an access list (field 202 in causes)
abbrev pub ACL_USER_INDEX : ℕ
ACL_USER_INDEX = 1

-- the index of *group* in an access list (field 203 in causes)
abbrev pub ACL_GROUP_INDEX : ℕ
ACL_GROUP_INDEX = 2

-- the index of *xattrs* in an access list (field 204 in causes)
abbrev pub ACL_XATTRS_INDEX : ℕ
ACL_XATTRS_INDEX = 3

-- ---- the information of a package

-- the index of *name* in a package info (field 301 in causes)
abbrev pub INFO_NAME_INDEX : ℕ
INFO_NAME_INDEX = 0

-- the index of *version* in a package info (field 302 in causes)
abbrev pub INFO_VERSION_INDEX : ℕ
INFO_VERSION_INDEX = 1

-- the index of *hashes* in a package info (field 303 in causes)
abbrev pub INFO_HASHES_INDEX : ℕ
INFO_HASHES_INDEX = 2

-- the index of *description* in a package info (field 304 in causes)
abbrev pub INFO_DESCRIPTION_INDEX : ℕ
INFO_DESCRIPTION_INDEX = 3

-- the index of *arch* in a package info (field 305 in causes)
abbrev pub INFO_ARCH_INDEX : ℕ
INFO_ARCH_INDEX = 4

-- the index of *license* in a package info (field 306 in causes)
abbrev pub INFO_LICENSE_INDEX : ℕ
INFO_LICENSE_INDEX = 5

-- the index of *origin* in a package info (field 307 in causes)
abbrev pub INFO_ORIGIN_INDEX : ℕ
INFO_ORIGIN_INDEX = 6

-- the index of *maintainer* in a package info (field 308 in causes)
abbrev pub INFO_MAINTAINER_INDEX : ℕ
INFO_MAINTAINER_INDEX = 7

-- the index of *url* in a package info (field 309 in causes)
abbrev pub INFO_URL_INDEX : ℕ
INFO_URL_INDEX = 8

-- the index of *repo-commit* in a package info (field 310 in causes)
abbrev pub INFO_REPO_COMMIT_INDEX : ℕ
INFO_REPO_COMMIT_INDEX = 9

-- the index of *build-time* in a package info (field 311 in causes)
abbrev pub INFO_BUILD_TIME_INDEX : ℕ
INFO_BUILD_TIME_INDEX = 10

-- the index of *installed-size* in a package info (field 312 in causes)
abbrev pub INFO_INSTALLED_SIZE_INDEX : ℕ
INFO_INSTALLED_SIZE_INDEX = 11

-- the index of *file-size* in a package info (field 313 in causes)
abbrev pub INFO_FILE_SIZE_INDEX : ℕ
INFO_FILE_SIZE_INDEX = 12

-- the index of *provider-priority* in a package info (field 314 in causes)
abbrev pub INFO_PROVIDER_PRIORITY_INDEX : ℕ
INFO_PROVIDER_PRIORITY_INDEX = 13

-- the index of *depends* in a package info (field 315 in causes)
abbrev pub INFO_DEPENDS_INDEX : ℕ
INFO_DEPENDS_INDEX = 14

-- the index of *provides* in a package info (field 316 in causes)
abbrev pub INFO_PROVIDES_INDEX : ℕ
INFO_PROVIDES_INDEX = 15

-- the index of *replaces* in a package info (field 317 in causes)
abbrev pub INFO_REPLACES_INDEX : ℕ
INFO_REPLACES_INDEX = 16

-- the index of *install-if* in a package info (field 318 in causes)
abbrev pub INFO_INSTALL_IF_INDEX : ℕ
INFO_INSTALL_IF_INDEX = 17

-- the index of *recommends* in a package info (field 319 in causes)
abbrev pub INFO_RECOMMENDS_INDEX : ℕ
INFO_RECOMMENDS_INDEX = 18

-- the index of *layer* in a package info (field 320 in causes)
abbrev pub INFO_LAYER_INDEX : ℕ
INFO_LAYER_INDEX = 19

-- the index of *tags* in a package info (field 321 in causes)
abbrev pub INFO_TAGS_INDEX : ℕ
INFO_TAGS_INDEX = 20

-- the index of *unused* in a package info (field 322 in causes)
abbrev pub INFO_UNUSED_INDEX : ℕ
INFO_UNUSED_INDEX = 21

-- ---- a file of a folder

-- the index of *name* in a file (field 401 in causes)
abbrev pub FILE_NAME_INDEX : ℕ
FILE_NAME_INDEX = 0

-- the index of *acl* in a file (field 402 in causes)
abbrev pub FILE_ACL_INDEX : ℕ
FILE_ACL_INDEX = 1

-- the index of *size* in a file (field 403 in causes)
abbrev pub FILE_SIZE_INDEX : ℕ
FILE_SIZE_INDEX = 2

-- the index of *mtime* in a file (field 404 in causes)
abbrev pub FILE_MTIME_INDEX : ℕ
FILE_MTIME_INDEX = 3

-- the index of *hashes* in a file (field 405 in causes)
abbrev pub FILE_HASHES_INDEX : ℕ
FILE_HASHES_INDEX = 4

-- the index of *target* in a file (field 406 in causes)
abbrev pub FILE_TARGET_INDEX : ℕ
FILE_TARGET_INDEX = 5

-- the index of *unused* in a file (field 407 in causes)
abbrev pub FILE_UNUSED_INDEX : ℕ
FILE_UNUSED_INDEX = 6

-- ---- a folder of a package

-- the index of *name* in a folder (field 501 in causes)
abbrev pub DIR_NAME_INDEX : ℕ
DIR_NAME_INDEX = 0

-- the index of *acl* in a folder (field 502 in causes)
abbrev pub DIR_ACL_INDEX : ℕ
DIR_ACL_INDEX = 1

-- the index of *files* in a folder (field 503 in causes)
abbrev pub DIR_FILES_INDEX : ℕ
DIR_FILES_INDEX = 2

-- ---- the scripts of a package

-- the index of *trigger* in scripts (field 601 in causes)
abbrev pub SCRIPTS_TRIGGER_INDEX : ℕ
SCRIPTS_TRIGGER_INDEX = 0

-- the index of *pre-install* in scripts (field 602 in causes)
abbrev pub SCRIPTS_PRE_INSTALL_INDEX : ℕ
SCRIPTS_PRE_INSTALL_INDEX = 1

-- the index of *post-install* in scripts (field 603 in causes)
abbrev pub SCRIPTS_POST_INSTALL_INDEX : ℕ
SCRIPTS_POST_INSTALL_INDEX = 2

-- the index of *pre-deinstall* in scripts (field 604 in causes)
abbrev pub SCRIPTS_PRE_DEINSTALL_INDEX : ℕ
SCRIPTS_PRE_DEINSTALL_INDEX = 3

-- the index of *post-deinstall* in scripts (field 605 in causes)
abbrev pub SCRIPTS_POST_DEINSTALL_INDEX : ℕ
SCRIPTS_POST_DEINSTALL_INDEX = 4

-- the index of *pre-upgrade* in scripts (field 606 in causes)
abbrev pub SCRIPTS_PRE_UPGRADE_INDEX : ℕ
SCRIPTS_PRE_UPGRADE_INDEX = 5

-- the index of *post-upgrade* in scripts (field 607 in causes)
abbrev pub SCRIPTS_POST_UPGRADE_INDEX : ℕ
SCRIPTS_POST_UPGRADE_INDEX = 6

-- ---- a package

-- the index of *info* in a package (field 701 in causes)
abbrev pub PACKAGE_INFO_INDEX : ℕ
PACKAGE_INFO_INDEX = 0

-- the index of *paths* in a package (field 702 in causes)
abbrev pub PACKAGE_PATHS_INDEX : ℕ
PACKAGE_PATHS_INDEX = 1

-- the index of *scripts* in a package (field 703 in causes)
abbrev pub PACKAGE_SCRIPTS_INDEX : ℕ
PACKAGE_SCRIPTS_INDEX = 2

-- the index of *triggers* in a package (field 704 in causes)
abbrev pub PACKAGE_TRIGGERS_INDEX : ℕ
PACKAGE_TRIGGERS_INDEX = 3

-- the index of *replaces-priority* in a package (field 705 in causes)
abbrev pub PACKAGE_REPLACES_PRIORITY_INDEX : ℕ
PACKAGE_REPLACES_PRIORITY_INDEX = 4

-- ---- an index

-- the index of *description* in an index (field 801 in causes)
abbrev pub INDEX_DESCRIPTION_INDEX : ℕ
INDEX_DESCRIPTION_INDEX = 0

-- the index of *packages* in an index (field 802 in causes)
abbrev pub INDEX_PACKAGES_INDEX : ℕ
INDEX_PACKAGES_INDEX = 1

-- the index of *pkgname-spec* in an index (field 803 in causes)
abbrev pub INDEX_PKGNAME_SPEC_INDEX : ℕ
INDEX_PKGNAME_SPEC_INDEX = 2

-- ---- the installed database

-- the index of *packages* in an installed database (field 901 in causes)
abbrev pub IDB_PACKAGES_INDEX : ℕ
IDB_PACKAGES_INDEX = 0

-- ---- an intent

-- the index of *removals* in an intent (field 1001 in causes)
abbrev pub INTENT_REMOVALS_INDEX : ℕ
INTENT_REMOVALS_INDEX = 0

-- the index of *writes* in an intent (field 1002 in causes)
abbrev pub INTENT_WRITES_INDEX : ℕ
INTENT_WRITES_INDEX = 1
